-- What does one step through a file hand out (01, "What must change shape")? "files are also walked by a reader that
-- holds the file's bytes and hands out one statement per call, with the same answers." A step is taken at an offset of
-- the file.
use Rattle.std.specs.Prelude.{ℕ, zero, suc, ◌+◌, min, cond, List, [], ◌∷◌, leb, length, drop, ℤ}
use Rattle.definitions.specs.Limits.{file_limit}
use Rattle.definitions.specs.Refusal.{Refusal, refusal, further, needed}
use Rattle.definitions.specs.Walk.{Step, stop, bad, item}
use Rattle.definitions.specs.Row.{Term, Line, terms_of}
use Rattle.definitions.specs.Text.{statement, in_file}
use Rattle.definitions.specs.Table.{Outcome, refused, accepted}
use Rattle.definitions.specs.declared.Options.{Options}

-- the end of the file; a refusal, its place in the file; a line, its places in the file, and the offset after its
-- statement
pub data Stepped (A : Type 0) : Type 0 where
  ended : Stepped A
  stopped : Refusal → Stepped A
  stepped : A → ℕ → Stepped A

abbrev pub stepped_by : ℕ → Step Line → Stepped Line
stepped_by at stop = ended
stepped_by at (bad r) = stopped (further at r)
stepped_by at (item l n) = stepped (in_file at l) (at + n)

-- "takes the rest of the file from where the last one stopped"; 1: "file above the limit", place 0
unfoldable pub step_at : Options → List ℕ → ℕ → Stepped Line
step_at o s at = cond (leb (length s) file_limit) (stepped_by at (statement o (drop at s))) (stopped (refusal 1 0))

-- where the next step is taken; at the end and at a refusal the offset stays, so that a further step says the same
-- again
abbrev pub offset_after : {A : Type 0} → Stepped A → ℕ → ℕ
offset_after ended at = at
offset_after (stopped r) at = at
offset_after (stepped a n) at = n

abbrev pub line_before : Line → Outcome (List Line) → Outcome (List Line)
line_before l (refused r) = refused r
line_before l (accepted ls) = accepted (l ∷ ls)

-- at most n steps, one after the other, until the end of the file or a refusal. 01 has no refusal 0: it says that n
-- steps were too few
unfoldable pub steps_in : Options → List ℕ → ℕ → ℕ → Outcome (List Line)
steps_in o s zero at = refused (refusal 0 at)
steps_in o s (suc n) at =
    elim (step_at o s at) [ ended ↦ accepted [] | stopped r ↦ refused r | stepped l next ↦ line_before l (steps_in o s n next) ]

-- the lines that stepping hands out from an offset to the end of the file, or the first refusal: a step for each byte,
-- and one for the end
unfoldable pub steps_from : Options → List ℕ → ℕ → Outcome (List Line)
steps_from o s at = steps_in o s (suc (length s)) at

-- ---- the terms of one statement, into two lent columns

-- 10: "terms do not fit", with the "count needed"
unfoldable pub terms_fitted : ℕ → List Term → Outcome (List Term)
terms_fitted room ts = cond (leb (length ts) room) (accepted ts) (refused (refusal 10 (needed (length ts))))

-- the end has no terms
abbrev pub terms_by : ℕ → Stepped Line → Outcome (List Term)
terms_by room ended = accepted []
terms_by room (stopped r) = refused r
terms_by room (stepped l n) = terms_fitted room (terms_of l)

-- "Columns of unequal length have the room of the shortest."
abbrev pub columns_room : List ℤ → List ℕ → ℕ
columns_room w l = min (length w) (length l)

unfoldable pub terms_at_step : Options → List ℕ → ℕ → List ℤ → List ℕ → Outcome (List Term)
terms_at_step o s at w l = terms_by (columns_room w l) (step_at o s at)

-- what the columns are filled with, from the front: "A refused call changes nothing it was lent"
abbrev pub terms_kept : Outcome (List Term) → List Term
terms_kept (refused r) = []
terms_kept (accepted ts) = ts

-- what the call answers: how many terms
abbrev pub terms_counted : Outcome (List Term) → Outcome ℕ
terms_counted (refused r) = refused r
terms_counted (accepted ts) = accepted (length ts)
