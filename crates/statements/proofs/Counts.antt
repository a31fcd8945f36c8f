-- A file's walk: where it stands, with the rows and terms before it counted.
use Prim.Native.Nat.{ℕ, ◌+◌, ◌≤◌, ◌<◌}
use mathlib.Core.Path.{◌≡◌, refl, sym, ap, ap₂, ◌∙◌}
use mathlib.Core.List.{List, [], ◌∷◌, ◌++◌}
use native.Mathlib.Omega.{arith}
use lib.ListN.{length, drop, length-append, length-drop}
use Rattle.definitions.specs.declared.Refusal.{Refusal}
use Rattle.definitions.specs.Lists.{joined}
use Rattle.definitions.specs.Refusal.{further}
use Rattle.definitions.specs.Walk.{Walked, stop, bad}
use Rattle.definitions.specs.Row.{Line}
use Rattle.definitions.specs.Table.{refused, accepted, totals_of, counted, all_terms}
use Rattle.definitions.specs.Text.{statement, in_file}
use Rattle.definitions.specs.File.{lines_of, statements}
use Rattle.definitions.specs.declared.Options.{Options}
use Rattle.definitions.proofs.Walks.{At, at-start, at-stop, at-bad, at_item}
use Rattle.definitions.proofs.Statements.{statement-moves, statement-taken}
use Rattle.definitions.proofs.Columns.{terms-snoc}
use Rattle.statements.proofs.Briefs.{LineIs, bad-within, terms-in-file}

-- at an offset: the rows before it, how many they are and how many terms they have
pub record Counting (o : Options) (s : List ℕ) (at rows terms : ℕ) : Type 0 where
  pub lines : List Line
  pub stands : At (statement o) in_file s at lines
  pub counted : rows ≡ length lines
  pub termed : terms ≡ length (all_terms lines)
  pub fewer-rows : rows ≤ at
  pub fewer-terms : terms ≤ at

pub counting-start : (o : Options) (s : List ℕ) → Counting o s 0 0 0
unfolding joined
counting-start o s =
    record {
      lines = [];
      stands = at-start (statement o) in_file s;
      counted = refl;
      termed = refl;
      fewer-rows = omega arith;
      fewer-terms = omega arith;
    }

module _ (o : Options) (s : List ℕ) (at rows terms : ℕ) (w : Counting o s at rows terms) where
  pub counting-stop : statement o (drop at s) ≡ stop → accepted (totals_of rows terms) ≡ counted (lines_of (statements o s))
  unfolding statements
  counting-stop e =
      ap₂ (λ (n m : ℕ). accepted (totals_of n m)) w.counted w.termed
      ∙ ap (λ (x : Walked Line). counted (lines_of x)) (sym (at-stop (statement o) in_file (statement-moves o) s at w.lines w.stands e))

  module _ (r : Refusal) (e : statement o (drop at s) ≡ bad r) where
    pub place-fits : at + r.place ≤ length s
    place-fits = omega (arith, bad-within o (drop at s) r e, length-drop at s, w.stands.within)

    pub counting-bad : refused (further at r) ≡ counted (lines_of (statements o s))
    unfolding statements
    counting-bad =
        ap (λ (x : Walked Line). counted (lines_of x))
        (sym (at-bad (statement o) in_file (statement-moves o) s at w.lines w.stands r e))

  module _ (c n : ℕ) (l : LineIs (statement o (drop at s)) c n) where
    pub line-has-byte : 0 < n
    line-has-byte = (statement-taken o (drop at s) l.line n l.is).least

    pub line-end-within : at + n ≤ length s
    line-end-within = omega (arith, (statement-taken o (drop at s) l.line n l.is).within, length-drop at s, w.stands.within)

    pub line-terms-fewer : c ≤ n
    line-terms-fewer = omega (arith, (statement-taken o (drop at s) l.line n l.is).terms, l.counted)

    pub counting-line : Counting o s (at + n) (rows + 1) (terms + c)
    counting-line =
        let p = in_file at l.line in
        record {
          lines = w.lines ++ (p ∷ []);
          stands = at_item (statement o) in_file (statement-moves o) s at w.lines w.stands l.line n l.is;
          counted = omega (arith, length-append w.lines (p ∷ []), w.counted);
          termed = omega (arith, terms-snoc w.lines p, ap length (terms-in-file at l.line), w.termed, l.counted);
          fewer-rows = omega (arith, line-has-byte, w.fewer-rows);
          fewer-terms = omega (arith, line-terms-fewer, w.fewer-terms);
        }
