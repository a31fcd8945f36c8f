-- What a call leaves behind: a refusal the output and the tables as they were; else the text, and what reading it
-- gives.
use Rattle.std.specs.Prelude.{Result, Ok, Err}
use Prim.Native.Nat.{ℕ, ◌≤◌}
use mathlib.Core.Path.{◌≡◌, refl, sym, ap, ◌∙◌}
use mathlib.Core.List.{List}
use native.Mathlib.Omega.{arith}
use lib.ListN.{length, take, drop, length-append}
use lib.Seq.{take-append_seam, length-take-le}
use Rattle.definitions.specs.Lists.{over}
use Rattle.definitions.specs.declared.Refusal.{Refusal}
use Rattle.definitions.specs.Row.{Line}
use Rattle.definitions.specs.Table.{Table, Outcome, refused, accepted}
use Rattle.definitions.specs.Table.{totals_of, counted, after}
use Rattle.definitions.specs.declared.Totals.{Totals}
use Rattle.definitions.specs.File.{reading}
use Rattle.definitions.specs.Write.{writing, output_after}
use Rattle.definitions.specs.Back.{options_of}
use Rattle.definitions.specs.declared.Mode.{Mode}
use Rattle.definitions.proofs.ThereAndBack.{there_and_back}
use Rattle.reader.specs.Reads.{Reads}
use Rattle.definitions.proofs.Truths.{never}
use Rattle.writer.specs.Writes.{Writes}
use Rattle.foreseen.specs.Returning.{unwritten, unread, back, read_back, returning, said_returned}
use Rattle.promise.specs.Returns.{output_kept, tables_after, Returns}
use Rattle.foreseen.specs.declared.Back.{Back}
use Rattle.foreseen.specs.declared.NotBack.{NotBack}
use Rattle.foreseen.specs.declared.NotBack.TheVariants.{NotWritten, NotRead}

-- ---- what is left behind

-- the first n bytes of an output that holds a text of n bytes
taken : (n : ℕ) (s o o' : List ℕ) → o' ≡ over s o → n ≡ length s → take n o' ≡ s
taken n s o o' e f = rw (e, f) (take-append_seam s (drop (length s) o))

module _ (m : Mode) (t : Table) (text o : List ℕ) (new : Table) where
  abbrev text_of : Outcome (List ℕ)
  text_of = writing m t text (length o)

  -- a refusal leaves the output and the tables as they were
  record Unchanged : Type 0 where
    output : o ≡ output_kept m new text_of o
    tables : new ≡ tables_after m new text_of

  refused-writing : (r : Refusal) → unwritten r ≡ returning m new text_of → Unchanged
  refused-writing r e = by text_of refl e
    where
      read : (s : List ℕ) (x : Outcome Totals) → unwritten r ≡ read_back s x → Unchanged
      read s (refused q) f = never (cc)
      read s (accepted q) f = never (cc)

      by : (x : Outcome (List ℕ)) → text_of ≡ x → unwritten r ≡ returning m new x → Unchanged
      by (refused q) p f = record { output = rw p; tables = rw p }
      by (accepted s) p f = read s (counted (reading (options_of m) s new)) f

  refused-reading : (r : Refusal) → unread r ≡ returning m new text_of → Unchanged
  unfolding after
  refused-reading r e = by text_of refl e
    where
      read : (s : List ℕ) → text_of ≡ accepted s → (x : Outcome (List Line)) → reading (options_of m) s new ≡ x
          → unread r ≡ read_back s (counted x) → Unchanged
      read s p (refused q) f g = record { output = rw p (rw f); tables = rw p (rw f) }
      read s p (accepted ls) f g = never (cc)

      by : (x : Outcome (List ℕ)) → text_of ≡ x → unread r ≡ returning m new x → Unchanged
      by (refused q) p f = never (cc)
      by (accepted s) p f = read s p (reading (options_of m) s new) refl f

  pub not-back : (e : NotBack) → said_returned (Err e) ≡ returning m new text_of → Returns m t text o new (Err e) o new
  not-back (NotWritten r) e =
      let u = refused-writing r e in
      record { answer = e; output = u.output; tables = u.tables; kept = there_and_back m t text (length o) }
  not-back (NotRead r) e =
      let u = refused-reading r e in
      record { answer = e; output = u.output; tables = u.tables; kept = there_and_back m t text (length o) }

  -- both accept
  record Good (l : ℕ) : Type 0 where
    bytes : List ℕ
    is : text_of ≡ accepted bytes
    long : l ≡ length bytes
    lines : List Line
    reads : reading (options_of m) bytes new ≡ accepted lines

  good-back : (l : ℕ) (q : Totals) → back l q ≡ returning m new text_of → Good l
  good-back l q e = by text_of refl e
    where
      read : (s : List ℕ) → text_of ≡ accepted s → (x : Outcome (List Line)) → reading (options_of m) s new ≡ x
          → back l q ≡ read_back s (counted x) → Good l
      read s p (refused r) f g = never (cc)
      read s p (accepted ls) f g = record { bytes = s; is = p; long = cc; lines = ls; reads = f }

      by : (x : Outcome (List ℕ)) → text_of ≡ x → back l q ≡ returning m new x → Good l
      by (refused r) p f = never (cc)
      by (accepted s) p f = read s p (reading (options_of m) s new) refl f

  module _ (b : Back) (e : said_returned (Ok b) ≡ returning m new text_of) (w : Result ℕ Refusal) (o' : List ℕ)
      (wrote : Writes m t text o w o') where
    good : Good b.length
    good = good-back b.length (totals_of b.rows b.terms) e

    output-is : o' ≡ over good.bytes o
    unfolding output_after
    output-is = wrote.after ∙ ap (λ (x : Outcome (List ℕ)). output_after x o) good.is

    pub text-within : b.length ≤ length o'
    text-within = omega (arith, good.long, ap length output-is, length-append good.bytes (drop (length good.bytes) o))

    pub part_length : b.length ≡ length (take b.length o')
    part_length = sym (length-take-le b.length o' text-within)

    part-is-text : take b.length o' ≡ good.bytes
    part-is-text = taken b.length good.bytes o o' output-is good.long

    pub came-back : (a : Result Totals Refusal) (new' : Table) → Reads (options_of m) (take b.length o') new a new' → Returns m t text o new (Ok b) o' new'
    came-back a new' r =
        let q : Reads (options_of m) good.bytes new a new' = rw part-is-text at r in
        record {
          answer = e;
          output = output-is ∙ rw good.is (rw good.reads);
          tables = rw good.is q.after;
          kept = there_and_back m t text (length o);
        }
