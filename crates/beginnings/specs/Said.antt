-- What each answer says: 01's number and values, as the definitions give them.
use Rattle.std.specs.Prelude.{ℕ, ◌+◌, pos, Option, Some, None}
use Rattle.definitions.specs.Refusal.{fault}
use Rattle.definitions.specs.Reader.{Got, none, got}
use Rattle.definitions.specs.Row.{Line, comment}
use Rattle.beginnings.specs.declared.Comment.{Comment}

-- 2: "a statement starts with none of its beginnings"
abbrev pub said_min : Option ℕ → Got ℕ
said_min (Some k) = got k (4 + k)
said_min None = none (fault 2)

abbrev pub said_comment : Option Comment → Got Line
said_comment (Some c) = got (comment c.first c.count (pos 0)) c.taken
said_comment None = none (fault 2)
