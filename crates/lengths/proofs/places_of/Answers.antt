-- `places_of` meets its contract: each test adds one or nothing to the place before it (proofs/DigitPlaces.antt).
use native.Mathlib.Omega.{arith}
use lib.Dec.{leb}
use Rattle.lengths.proofs.DigitPlaces.{at_most_one, places-found}
use Rattle.lengths.proofs.places_of.Goals as goal

pub overflow_add-tens : goal.overflow_add-tens
overflow_add-tens c = let m = c.args.m in omega (arith, at_most_one (leb 1000 m), at_most_one (leb 100 m))

pub overflow_add-ones : goal.overflow_add-ones
overflow_add-ones c = let m = c.args.m in omega (arith, at_most_one (leb 1000 m), at_most_one (leb 100 m), at_most_one (leb 10 m))

pub returns : goal.returns
returns c = places-found c.args.m
