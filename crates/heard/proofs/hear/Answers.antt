-- `heard::hear` meets its contract: the first conflict, or what the first walk answered (proofs/Hearing.antt). Assumes
-- nothing.
use mathlib.Core.Path.{◌≡◌, sym, ap, ◌∙◌}
use lib.ListN.{length}
use Rattle.definitions.specs.Answers.{said_length}
use Rattle.definitions.specs.Values.{new_length}
use Rattle.heard.proofs.Hearing.{end_by, found_below, found-conflict, found_fine}
use Rattle.heard.proofs.hear.Goals as goal
use Rattle.heard.proofs.hear.Goals.{Joined-surveyed, in-Ok, in-Err}

module _ (c : Joined-surveyed) where
  same : c.match-surveyed.surveyed ≡ c.survey-surveyed.result
  same = elim c.match-surveyed.branch [ in-Ok w ↦ w.surveyed-is | in-Err w ↦ w.surveyed-is ∙ sym w.in-Err.is ]

  ends : c.match-surveyed.end ≡ end_by (length c.args.block.now) c.survey-surveyed.result
  ends = elim c.match-surveyed.branch [
    | in-Ok w ↦ w.end-is ∙ sym (ap (end_by (length c.args.block.now)) w.in-Ok.is)
    | in-Err w ↦ w.end-is ∙ sym (ap (end_by (length c.args.block.now)) w.in-Err.is)
  ]

pub first_conflict-requires : goal.first_conflict-requires
first_conflict-requires c = found_below _ _ c.args.kept c.args.values.now c.args.known.now _ c.survey-surveyed.ensures _ (ends c)

pub returns-in-Some : goal.returns-in-Some
returns-in-Some c =
    sym (ap (new_length c.args.kept)
    (found-conflict _ _ _ _ _ _ c.survey-surveyed.ensures _ (ends (goal.at.returns-in-Some c).Joined-surveyed) _ c.in-Some.ensures))

pub returns : goal.returns
returns c =
    let j = (goal.at.returns c).Joined-surveyed in
    ap said_length (same j) ∙ found_fine _ _ _ _ _ _ c.survey-surveyed.ensures _ (ends j) (sym c.in_default.is ∙ c.first_conflict.ensures)
