-- `heard::conflicts::note` meets its contract, arm by arm. Assumes nothing.
use Rattle.heard.proofs.Marking.{note-behind, note-conflict}
use Rattle.heard.proofs.conflicts.note.Goals as goal

pub returns-in-Behind : goal.returns-in-Behind
returns-in-Behind c = note-behind _ _ _ _ _ c.in-Behind.is c.min.ensures

pub returns-in-Conflict : goal.returns-in-Conflict
returns-in-Conflict c = note-conflict _ _ _ _ c.in-Conflict.is c.min-in-Conflict.ensures
