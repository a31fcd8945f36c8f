-- What the steps of a walker promise: it "hands out one statement per call, with the same answers" (01).
use Rattle.std.specs.Prelude.{◌≡◌, Option, Result}
use Rattle.definitions.specs.Row.{Line}
use Rattle.definitions.specs.declared.Refusal.{Refusal}
use Rattle.definitions.specs.Stepping.{Stepped, step_at, offset_after}
use Rattle.walker.specs.Said.{said_stepped, brief_stepped}
use Rattle.walker.specs.declared.steps.Step.{Step}
use Rattle.held.specs.declared.Walker.{Walker}
use Rattle.held.specs.HeldWalker.{walker_at}

-- the step that a walker takes next
abbrev pub step_of : Walker → Stepped Line
step_of w = step_at w.options w.file.now w.at

-- the step's answer, and the same walker at the offset after it
pub record Nexts (w : Walker) (r : Result (Option Step) Refusal) (w' : Walker) : Type 0 where
  pub answer : said_stepped r ≡ brief_stepped (step_of w)
  pub after : w' ≡ walker_at w.file w.options (offset_after (step_of w) w.at)
