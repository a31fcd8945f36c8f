-- That a place k bytes further on is still a machine number.
use Rattle.std.specs.Prelude.{ℕ, ◌+◌, ◌<◌, ◌^◌, Option, Some, None}
use Rattle.definitions.specs.Reader.{Got, none, got}
use Rattle.beginnings.specs.declared.Comment.{Comment}

abbrev pub Fitting : {A : Type 0} → ℕ → Got A → Type 0
Fitting k (none e) = Unit {0}
Fitting k (got a n) = k + n < 2 ^ 64

abbrev pub CommentFitting : ℕ → Option Comment → Type 0
CommentFitting k (Some c) = (k + c.first < 2 ^ 64) × (k + c.taken < 2 ^ 64)
CommentFitting k None = Unit {0}
