-- A walk of steps stands where the walk of the whole file stands, with the same rows and terms before it (`Counting`,
-- of the crate statements), and ends as it does.
use Prim.Native.Nat.{ℕ, ◌+◌, ◌≤◌, ◌<◌}
use mathlib.Core.Path.{◌≡◌, refl, sym, ap, subst, ◌∙◌}
use mathlib.Core.Bool.{Bool, true, false, cond}
use mathlib.Core.List.{List}
use native.Mathlib.Omega.{arith}
use lib.Dec.{leb}
use lib.ListN.{length, drop}
use Rattle.definitions.specs.Limits.{file_limit}
use Rattle.definitions.specs.Refusal.{refusal, further}
use Rattle.definitions.specs.declared.Refusal.{Refusal}
use Rattle.definitions.specs.Walk.{Step, stop, bad, item}
use Rattle.definitions.specs.Row.{Line}
use Rattle.definitions.specs.Table.{refused, accepted, totals_of, counted}
use Rattle.definitions.specs.Text.{statement, in_file}
use Rattle.definitions.specs.File.{lines_of, statements, file}
use Rattle.definitions.specs.Stepping.{ended, stopped, stepped, stepped_by, step_at}
use Rattle.definitions.specs.declared.Entry.{Entry}
use Rattle.definitions.specs.declared.Options.{Options}
use Rattle.definitions.proofs.Truths.{never}
use Rattle.columns.specs.Entries.{entry_alone}
use Rattle.columns.specs.Kinds.{terms_of_kind}
use Rattle.columns.proofs.EntryLaws.{line-terms}
use Rattle.statements.proofs.Briefs.{LineIs, terms-in-file}
use Rattle.statements.proofs.Counts.{Counting, counting-stop, counting-bad, counting-line, line-has-byte, line-end-within, line-terms-fewer}
use Rattle.walker.specs.Said.{brief_stepped}

module _ (o : Options) (s : List ℕ) where
  short-is : leb (length s) file_limit ≡ true → file o s ≡ lines_of (statements o s)
  unfolding file
  short-is e = rw e

  long-is : leb (length s) file_limit ≡ false → file o s ≡ refused (refusal 1 0)
  unfolding file
  long-is e = rw e

  whole : leb (length s) file_limit ≡ true → counted (lines_of (statements o s)) ≡ counted (file o s)
  whole e = ap counted (sym (short-is e))

  module _ (at rows terms : ℕ) (w : Counting o s at rows terms) where
    -- ---- the walk ends
    pub tally-end : ended ≡ brief_stepped (step_at o s at) → accepted (totals_of rows terms) ≡ counted (file o s)
    unfolding step_at
    tally-end e = by (leb (length s) file_limit) refl (statement o (drop at s)) refl e
      where
        by : (t : Bool) → leb (length s) file_limit ≡ t → (x : Step Line) → statement o (drop at s) ≡ x
            → ended ≡ brief_stepped (cond t (stepped_by at x) (stopped (refusal 1 0)))
            → accepted (totals_of rows terms) ≡ counted (file o s)
        by false p x h q = never (cc)
        by true p stop h q = counting-stop o s at rows terms w h ∙ whole p
        by true p (bad b) h q = never (cc)
        by true p (item l m) h q = never (cc)

    pub tally-refused : (r : Refusal) → stopped r ≡ brief_stepped (step_at o s at) → refused r ≡ counted (file o s)
    unfolding step_at
    tally-refused r e = by (leb (length s) file_limit) refl (statement o (drop at s)) refl e
      where
        by : (t : Bool) → leb (length s) file_limit ≡ t → (x : Step Line) → statement o (drop at s) ≡ x
            → stopped r ≡ brief_stepped (cond t (stepped_by at x) (stopped (refusal 1 0))) → refused r ≡ counted (file o s)
        by false i x h q = let z : r ≡ refusal 1 0 = cc in ap refused z ∙ ap counted (sym (long-is i))
        by true i stop h q = never (cc)
        by true i (bad b) h q = let z : r ≡ further at b = cc in ap refused z ∙ counting-bad o s at rows terms w b h ∙ whole i
        by true i (item l m) h q = never (cc)

    -- ---- a line, as the code was told of it
    module _ (x : Entry) (next : ℕ) (e : stepped x next ≡ brief_stepped (step_at o s at)) where
      abbrev new : ℕ
      new = terms_of_kind x.kind x.count

      record LineAt : Type 0 where
        pub taken : ℕ
        pub line : LineIs (statement o (drop at s)) new taken
        pub behind : next ≡ at + taken

      line_at : LineAt
      unfolding step_at
      line_at = by (leb (length s) file_limit) (statement o (drop at s)) refl e
        where
          by : (t : Bool) (y : Step Line) → statement o (drop at s) ≡ y
              → stepped x next ≡ brief_stepped (cond t (stepped_by at y) (stopped (refusal 1 0))) → LineAt
          by false y h q = never (cc)
          by true stop h q = never (cc)
          by true (bad b) h q = never (cc)
          by true (item l m) h q =
              let z : x ≡ entry_alone (in_file at l) = cc in
              record {
                taken = m;
                line =
                    record {
                      line = l;
                      is = h;
                      counted =
                          ap (λ (y : Entry). terms_of_kind y.kind y.count) z ∙ line-terms (in_file at l)
                          ∙ ap length (terms-in-file at l);
                    };
                behind = cc;
              }

      pub record Onward : Type 0 where
        pub rises : at < next
        pub within : next ≤ length s
        pub few-rows : rows + 1 ≤ next
        pub few-terms : terms + new ≤ next

      pub tally-onward : Onward
      tally-onward =
          let a = line_at in
          let h = line-has-byte o s at rows terms w new a.taken a.line in
          let i = line-end-within o s at rows terms w new a.taken a.line in
          let j = line-terms-fewer o s at rows terms w new a.taken a.line in
          let g = a.behind in
          let i' = w.fewer-rows in
          let j' = w.fewer-terms in
          record { rises = omega arith; within = omega arith; few-rows = omega arith; few-terms = omega arith }

      pub tally-line : Counting o s next (rows + 1) (terms + new)
      tally-line =
          let a = line_at in
          subst (λ (y : ℕ). Counting o s y (rows + 1) (terms + new)) (sym a.behind)
          (counting-line o s at rows terms w new a.taken a.line)
