-- `put_term` meets its contract: the variable has a file number, and the fields are put with it.
use native.Mathlib.Omega.{arith}
use mathlib.Core.Path.{ap, ◌∙◌}
use Prim.Native.Nat.{◌+◌, ◌≤◌}
use lib.ListN.{length}
use mir.Facts.{to_z-of_z}
use Rattle.definitions.specs.Literal.{negated, file_number}
use Rattle.definitions.proofs.Truths.{one_truth}
use Rattle.laws.proofs.Puts.{puts-as}
use Rattle.house_lengths.specs.Words.{term_words}
use Rattle.literals.proofs.Numbered.{number_is, no_number}
use Rattle.house_lengths.proofs.Fields.{term_words_lem}
use Rattle.house.proofs.terms.put_term.Goals as goal

pub put_fields-requires : goal.put_fields-requires
put_fields-requires c =
    let a = c.args in
    let g = number_is _ _ _ (c.of.ensures ∙ ap (file_number a.first) c.var.ensures) _ c.in-Some.is in
    let h : a.at + length (term_words a.w (negated a.l.0) c.in-Some.n.0) ≤ length a.out.now =
    omega (arith, c.requires.room, ap length (term_words_lem a.first a.w a.l.0 _ g.0)) in
    rw (to_z-of_z c.ranges.w, c.is_neg.ensures) h

pub returns-in-Some : goal.returns-in-Some
returns-in-Some c =
    let a = c.args in
    let g = number_is _ _ _ (c.of.ensures ∙ ap (file_number a.first) c.var.ensures) _ c.in-Some.is in
    puts-as (rw (to_z-of_z c.ranges.w, c.is_neg.ensures) at c.put_fields.ensures) (term_words_lem a.first a.w a.l.0 _ g.0)

pub returns-in-None : goal.returns-in-None
returns-in-None c =
    absurd (one_truth _ c.requires.number
    (no_number _ _ _ (c.of.ensures ∙ ap (file_number c.args.first) c.var.ensures) c.in-None.is))
