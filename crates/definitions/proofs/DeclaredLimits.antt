-- The limits that the code declares are those of specs/Limits.antt. What code leaves to the library's checked and
-- saturating sums, no contract holds to these constants.
use mathlib.Core.Path.{◌≡◌, refl}
use Rattle.definitions.specs.Limits.{file_limit, index_limit, file_number_limit, weight_limit, least, greatest, word_limit, needed_limit}
use Rattle.definitions.specs.declared.TheConstants.{FILE_LIMIT, INDEX_LIMIT, FILE_NUMBER_LIMIT, WEIGHT_LIMIT, LEAST, GREATEST, WORD_LIMIT, NEEDED_LIMIT}

pub declared-limits : (FILE_LIMIT ≡ file_limit) × (INDEX_LIMIT ≡ index_limit) × (FILE_NUMBER_LIMIT ≡ file_number_limit)
    × (WEIGHT_LIMIT ≡ weight_limit) × (LEAST ≡ least) × (GREATEST ≡ greatest) × (WORD_LIMIT ≡ word_limit) × (NEEDED_LIMIT ≡ needed_limit)
declared-limits = (refl, refl, refl, refl, refl, refl, refl, refl)
