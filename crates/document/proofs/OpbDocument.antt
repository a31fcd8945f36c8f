-- Is every file of the OPB document read as it means it? Every file of the document's own linear grammar that is within
-- 01's limits is accepted, read from first index 1. Its statements come back one for one, in order: comment for
-- comment, and each constraint and objective means what the document says, for every assignment of its variables.
-- (specs/Document.antt has the document's grammar and meaning, specs/DocumentRead.antt the words for how it is read,
-- proofs/DocumentSample.antt one such file.)
use mathlib.Core.Path.{◌≡◌, ap}
use mathlib.Core.List.{List}
use borrow.Author.Tests.{le-leb}
use lib.ListN.{length}
use Rattle.definitions.specs.Limits.{file_limit}
use Rattle.definitions.specs.Row.{Line}
use Rattle.definitions.specs.Table.{accepted}
use Rattle.definitions.specs.File.{lines_of, file}
use Rattle.definitions.specs.Back.{Paired}
use Rattle.document.specs.Document.{File, WellFormed, statements_of, file_text}
use Rattle.document.specs.DocumentRead.{from_one, WithinLimits, Says}
use Rattle.document.proofs.DocumentStatements.{most_of, lines_from, document-statements, statements-say, fair-file}

-- what is said of a file f of the document
pub record DocumentRead (f : File) : Type 0 where
  pub lines : List Line
  -- the file is accepted
  pub read : file from_one (file_text f) ≡ accepted lines
  -- one line for each statement, in order, that says what the statement says
  pub says : Paired (Says (file_text f)) (statements_of f) lines

-- it holds of every file that is well formed and within the limits
pub document-read : (f : File) → WellFormed f → WithinLimits f → DocumentRead f
unfolding file file_text
document-read f w l =
    let fair = fair-file f w l in
    record {
      lines = lines_from 0 (statements_of f);
      read = rw (le-leb (length (file_text f)) file_limit l.file) (ap lines_of (document-statements (most_of f) (statements_of f) fair));
      says = statements-say (most_of f) (statements_of f) fair;
    }
