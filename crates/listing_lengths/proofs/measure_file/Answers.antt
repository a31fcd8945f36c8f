-- `measure_file` meets its contract: a file above the limit, or its statements (proofs/FileLengths.antt).
use mathlib.Core.Path.{ap, ◌∙◌}
use Rattle.listing_lengths.specs.Measure.{file_sizes}
use Rattle.listing_lengths.proofs.FileLengths.{file-long, file-short}
use Rattle.listing_lengths.proofs.measure_file.Goals as goal

pub returns-then-s-gt-FILE_LIMIT : goal.returns-then-s-gt-FILE_LIMIT
returns-then-s-gt-FILE_LIMIT c =
    file-long c.args.options c.args.s.now c.if-s-gt-FILE_LIMIT.true

pub returns : goal.returns
returns c =
    c.measure_statements.ensures ∙ ap (file_sizes c.args.options.first)
    (file-short c.args.options c.args.s.now c.if-s-gt-FILE_LIMIT.false)
