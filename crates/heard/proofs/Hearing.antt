-- What is heard of signed numbers and `x` tokens, from where the first walk stopped and the first conflict before it.
use Prim.Native.Nat.{ℕ}
use mathlib.Core.Path.{◌≡◌, refl, sym, ap, subst, ◌∙◌}
use mathlib.Core.Bool.{Bool, true, false}
use mathlib.Core.List.{List, [], map}
use native.Mathlib.Omega.{arith}
use borrow.Author.Tests.{ltb-true, ltb-false}
use lib.Dec.{ltb}
use lib.ListN.{length}
use Rattle.definitions.proofs.Truths.{never}
use Rattle.std.specs.Prelude.{Option, Some, None, Result, Ok, Err}
use Rattle.definitions.specs.Answers.{said_length}
use Rattle.definitions.specs.Refusal.{refusal}
use Rattle.definitions.specs.declared.Refusal.{Refusal}
use Rattle.definitions.specs.Table.{Outcome, refused, accepted}
use Rattle.definitions.specs.Values.{Item, front, items_from, hear, length_after, new_length}
use Rattle.tokens.specs.Said.{form_by}
use Rattle.settling.specs.Flat.{code_in, said_by, stop_of}
use Rattle.heard.specs.Surveys.{stopped_by, survey_of}
use Rattle.heard.specs.Windows.{conflict_at, conflict_before, PlacesBelow}
use Rattle.heard.proofs.Heard.{flatly, stopped, hear-flatly, flatly-conflict, flatly-fine, flatly-accepts}
use Rattle.heard.proofs.Places.{stop_place, orderly}

-- where the first walk stopped, by its answer
abbrev pub end_by : ℕ → Result ℕ Refusal → ℕ
end_by end (Ok n) = end
end_by end (Err r) = r.place

end-stopped : (end n : ℕ) (o : Option Refusal) → end_by end (stopped_by o n) ≡ stop_place end o
end-stopped end n None = refl
end-stopped end n (Some r) = refl

said-stopped : (n : ℕ) (codes : List ℕ) (o : Option Refusal) → said_length (stopped_by o (length_after n codes)) ≡ new_length n (stopped codes o)
said-stopped n codes None = refl
said-stopped n codes (Some r) = refl

module _ (s : List ℕ) (named : Bool) (n : ℕ) (ws ks : List ℕ) where
  abbrev pub items : List Item
  items = items_from front 0 s

  abbrev stop : Option Refusal
  stop = stop_of named items

  -- what the definition hears
  abbrev pub Hears : Outcome (List ℕ)
  Hears = hear (form_by named) n ws ks [] items

  flat : Hears ≡ flatly ws ks [] (said_by named items) stop
  flat = hear-flatly ws ks named n items []

  -- by the answers of the two walks
  module _ (found : Result ℕ Refusal) (is : found ≡ survey_of named n items) (end : ℕ) (at : end ≡ end_by (length s) found) where
    pub found_below : PlacesBelow end (said_by named items)
    found_below =
        subst (λ (p : ℕ). PlacesBelow p (said_by named items))
        (sym (at ∙ ap (end_by (length s)) is ∙ end-stopped (length s) (length_after n (map code_in (said_by named items))) stop))
        (orderly named (length s) 0 front s (omega arith)).below

    abbrev conflict : ℕ
    conflict = conflict_at ws ks [] end (said_by named items)

    pub found-conflict : (first : ℕ) → Some first ≡ conflict_before ws ks end (said_by named items) → Hears ≡ refused (refusal 22 first)
    found-conflict first e = by (ltb conflict end) refl
      where
        by : (b : Bool) → ltb conflict end ≡ b → Hears ≡ refused (refusal 22 first)
        by true f =
            let z : first ≡ conflict = cc (rw f at e) in
            rw z (flat ∙ flatly-conflict ws ks end stop (said_by named items) [] (ltb-true conflict end f))
        by false f = never (cc (rw f at e))

    pub found_fine : None ≡ conflict_before ws ks end (said_by named items) → said_length found ≡ new_length n Hears
    found_fine e = by (ltb conflict end) refl
      where
        by : (b : Bool) → ltb conflict end ≡ b → said_length found ≡ new_length n Hears
        by true f = never (cc (rw f at e))
        by false f =
            ap said_length is ∙ said-stopped n (map code_in (said_by named items)) stop
            ∙ sym (ap (new_length n) (flat ∙ flatly-fine ws ks end stop (said_by named items) [] found_below (ltb-false conflict end f)))

  -- where the block is accepted, what was said is what was heard
  pub said-heard : (cs : List ℕ) → Hears ≡ accepted cs → map code_in (said_by named items) ≡ cs
  said-heard cs e = sym (flatly-accepts ws ks stop (said_by named items) [] cs (sym flat ∙ e))
