-- Is the whole file read? An accepted file is its statements, one piece for each line, and blanks behind them; a
-- refused one is broken at a place that lies in it, and all before that place is whole statements and blanks. So no
-- byte is left out. (specs/Pieces.antt has the words.)
use Prim.Native.Nat.{ℕ, ◌+◌, ◌≤◌, ◌<◌}
use mathlib.Core.Path.{◌≡◌, sym, ap, ◌∙◌}
use mathlib.Core.Logic.{◌⊎◌, inl, inr, ⊎_elim}
use mathlib.Core.List.{List, ◌++◌}
use native.Mathlib.Omega.{arith}
use lib.ListN.{length, length-append}
use Rattle.definitions.specs.Lists.{AllOf}
use Rattle.definitions.specs.Limits.{file_limit}
use Rattle.definitions.specs.Refusal.{Refusal, refusal}
use Rattle.definitions.specs.Walk.{bad, broken, items}
use Rattle.definitions.specs.Row.{Line}
use Rattle.definitions.specs.Text.{statement, in_file}
use Rattle.definitions.specs.Table.{refused, accepted}
use Rattle.definitions.specs.File.{statements, file}
use Rattle.definitions.specs.Pieces.{together, Blank, Pieces}
use Rattle.definitions.specs.declared.Options.{Options}
use Rattle.definitions.proofs.Statements.{statement-moves}
use Rattle.definitions.proofs.PieceByPiece.{ended-items, ended-broken, all-through}
use Rattle.definitions.proofs.FileAnswers.{file-accepted, file-refused}
use Rattle.definitions.proofs.Stops.{stop-is-blank, bad-parted}

-- what is said of a file s that is read as the lines ls
pub record WholeFile (o : Options) (s : List ℕ) (ls : List Line) : Type 0 where
  pub pieces : List (List ℕ)
  pub tail : List ℕ
  -- the file is the pieces and the tail
  pub whole : s ≡ together pieces ++ tail
  -- one piece for each line, in order: exactly the bytes that `statement` takes there
  pub each : Pieces (statement o) in_file 0 pieces tail ls
  -- the tail is blanks alone
  pub blank : AllOf Blank tail

-- what is said of a file s that is refused with r
pub record BrokenFile (o : Options) (s : List ℕ) (r : Refusal) : Type 0 where
  pub pieces : List (List ℕ)
  pub lines : List Line
  pub gap : List ℕ
  pub rest : List ℕ
  -- the file is the pieces of whole statements, blanks, and the rest that is refused
  pub whole : s ≡ together pieces ++ (gap ++ rest)
  pub each : Pieces (statement o) in_file 0 pieces (gap ++ rest) lines
  pub blank : AllOf Blank gap
  -- the place is where that rest begins, and lies in the file
  pub place : r.place ≡ length (together pieces ++ gap)
  pub within : r.place < length s
  -- there `statement` answers the number
  pub answer : statement o (gap ++ rest) ≡ bad (refusal r.number (length gap))

-- statements that are found up to the end of the file leave no byte out
pub accepted-is-whole : (o : Options) (s : List ℕ) (ls : List Line) (n : ℕ) → statements o s ≡ items ls n → WholeFile o s ls
unfolding statements
accepted-is-whole o s ls n e =
    let t = all-through (statement o) in_file (statement-moves o) s in
    let q = ended-items (statement o) in_file (statement-moves o) ls n t.ended e in
    record {
      pieces = t.pieces;
      tail = t.rest;
      whole = t.whole;
      each = rw q.0 at t.each;
      blank = stop-is-blank o t.rest q.2;
    }

named : {n k : ℕ} (b : Refusal) → b.number ≡ n → b.place ≡ k → b ≡ refusal n k
named b e p = rw (e, p)

-- a statement that is refused stands behind whole statements
pub refused-is-broken : (o : Options) (s : List ℕ) (r : Refusal) → statements o s ≡ broken r → BrokenFile o s r
unfolding statements
refused-is-broken o s r e =
    let t = all-through (statement o) in_file (statement-moves o) s in
    let q = ended-broken (statement o) in_file (statement-moves o) r t.ended e in
    let b = bad-parted o t.rest q.behind q.answer in
    let number : q.behind.number ≡ r.number = ap (λ (x : Refusal). x.number) q.whole in
    let spot : 0 + length (together t.pieces) + q.behind.place ≡ r.place = ap (λ (x : Refusal). x.place) q.whole in
    record {
      pieces = t.pieces;
      lines = t.found;
      gap = b.gap;
      rest = b.behind;
      whole = rw b.seam t.whole;
      each = rw b.seam t.each;
      blank = b.blank;
      place = omega (arith, spot, b.size, length-append (together t.pieces) b.gap);
      within = omega (arith, spot, b.short, ap length t.whole, length-append (together t.pieces) t.rest);
      answer = ap (statement o) b.seam ∙ q.answer ∙ ap bad (named q.behind number (sym b.size));
    }

-- ---- the same of `file`, which has the limit on the length (1)

module _ (o : Options) (s : List ℕ) where
  pub file-is-whole : (ls : List Line) → file o s ≡ accepted ls → (length s ≤ file_limit) × WholeFile o s ls
  file-is-whole ls e = let f = file-accepted o s ls e in (f.within, accepted-is-whole o s ls f.end f.found)

  pub file-is-broken : (r : Refusal) → file o s ≡ refused r → ((file_limit < length s) × (r ≡ refusal 1 0)) ⊎ BrokenFile o s r
  file-is-broken r e = ⊎_elim (λ long. inl long) (λ b. inr (refused-is-broken o s r b)) (file-refused o s r e)
