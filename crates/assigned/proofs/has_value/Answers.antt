-- `assigned::has_value` meets its contract: the words hold the variable and its bit is known (proofs/Known.antt).
-- Assumes nothing.
use Rattle.std.proofs.Common.{ℕ, ◌%◌, sym, ap, ◌∙◌, option_copied}
use Rattle.assigned.proofs.Known.{bit_of, has-beyond, has_there}
use Rattle.assigned.proofs.has_value.Goals as goal

pub returns-then-v-words : goal.returns-then-v-words
returns-then-v-words c =
    let a = c.args in sym (has-beyond a.words.now a.v (option_copied a.known) c.if-v-words.true)

pub returns : goal.returns
returns c =
    let a = c.args in
    ap (λ (x : ℕ). bit_of x (a.v % 64)) c.known_word-bits.ensures
    ∙ sym (has_there a.words.now a.v (option_copied a.known) c.if-v-words.false)
