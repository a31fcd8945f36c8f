-- `listing_length` meets its contract: the line of a refusal, of the file's own or of rows or terms that do not fit; or
-- the head and the lines (proofs/FileLengths.antt).
use Prim.Native.Nat.{ℕ}
use mathlib.Core.List.{List}
use mathlib.Core.Path.{◌≡◌, sym, ap, ◌∙◌}
use native.Mathlib.Omega.{arith}
use Rattle.definitions.specs.Table.{accepted}
use Rattle.definitions.specs.File.{file}
use Rattle.definitions.specs.declared.Options.{Options}
use Rattle.listing_lengths.specs.declared.Sizes.{Sizes}
use Rattle.listing_lengths.specs.Measure.{file_sizes, said_measured}
use Rattle.listing_lengths.proofs.FileLengths.{refusal-listed, rows-listed, terms-listed, text-listed}
use Rattle.listing_lengths.proofs.listing_length.Goals as goal
use Rattle.listing_lengths.proofs.listing_length.Goals.{After-measure_file, In-Ok, Start}

-- the sizes were measured
module _ (c : In-Ok) where
  abbrev measured : After-measure_file
  measured = (goal.at.In-Ok c).After-measure_file

  abbrev start : Start
  start = (goal.at.In-Ok c).Start

  abbrev options : Options
  options = start.args.options

  abbrev text : List ℕ
  text = start.args.s.now

  abbrev found : Sizes
  found = c.in-Ok.found

  sizes : accepted found ≡ file_sizes options.first (file options text)
  sizes = sym (ap said_measured c.in-Ok.is) ∙ measured.measure_file.ensures

pub returns-then-rows-found : goal.returns-then-rows-found
returns-then-rows-found c =
    λ t p q. rows-listed (options (goal.at.returns-then-rows-found c).In-Ok) (text (goal.at.returns-then-rows-found c).In-Ok) t (found (goal.at.returns-then-rows-found c).In-Ok) (sizes (goal.at.returns-then-rows-found c).In-Ok) _ (omega arith)
    (omega (arith, c.if-rows-found.true)) c.refusal_length.ensures

pub returns-then-terms-found : goal.returns-then-terms-found
returns-then-terms-found c =
    λ t p q. terms-listed (options (goal.at.returns-then-terms-found c).In-Ok) (text (goal.at.returns-then-terms-found c).In-Ok) t (found (goal.at.returns-then-terms-found c).In-Ok) (sizes (goal.at.returns-then-terms-found c).In-Ok) _ (omega arith)
    (omega (arith, c.if-rows-found.false)) (omega (arith, c.if-terms-found.true))
    c.refusal_length-then-terms-found.ensures

pub returns-in-Err : goal.returns-in-Err
returns-in-Err c =
    λ t p q. refusal-listed c.args.options c.args.s.now t _ _ (omega arith)
    (omega arith) (sym (ap said_measured c.in-Err.is) ∙ c.measure_file.ensures)
    c.refusal_length-in-Err.ensures

pub returns-else-terms-found : goal.returns-else-terms-found
returns-else-terms-found c =
    λ t p q. text-listed (options (goal.at.returns-else-terms-found c).In-Ok) (text (goal.at.returns-else-terms-found c).In-Ok) t (found (goal.at.returns-else-terms-found c).In-Ok) (sizes (goal.at.returns-else-terms-found c).In-Ok) _ (omega (arith, c.if-rows-found.false))
    (omega (arith, c.if-terms-found.false)) c.text_length.ensures
