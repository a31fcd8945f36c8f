-- Is there a file of the document? One of its grammar, with its text, that is well formed and within the limits: what
-- OpbDocument.antt says is not empty.
use Prim.Native.Nat.{ℕ}
use mathlib.Core.Path.{◌≡◌, refl}
use mathlib.Core.List.{[], ◌∷◌}
use native.Mathlib.Omega.{arith}
use Rattle.definitions.specs.Lists.{joined}
use Rattle.definitions.specs.Limits.{in_i64}
use Rattle.document.specs.Document as D
use Rattle.document.specs.DocumentRead.{weights_of, SumWithin, WithinLimits}
use Rattle.definitions.specs.Bytes.{bytes}

digit : ℕ → D.Integer
digit d = record { sign = D.unsigned; first = d; others = [] }

-- `+1  x1 `, `-02 x2 `
left : D.WeightedTerm
left = record { weight = record { sign = D.plus; first = 1; others = [] }; gap = 1; first = 1; others = []; behind = 0 }

right : D.WeightedTerm
right = record { weight = record { sign = D.minus; first = 0; others = 2 ∷ [] }; gap = 0; first = 2; others = []; behind = 0 }

sum : D.Sum
sum = record { first = left; others = right ∷ [] }

pub sample : D.File
sample = record {
  variables = digit 2;
  constraints = digit 1;
  comments = bytes "a" ∷ [];
  objective = record { gap = 1; sum = sum } ∷ [];
  body = D.constraint (record { sum = sum; relation = D.at_least; gap = 1; bound = digit 0; behind = 0 }) ∷ [];
}

pub sample-text : D.file_text sample ≡ bytes "* #variable= 2 #constraint= 1\n*a\nmin: +1  x1 -02 x2 ;\n+1  x1 -02 x2 >= 0;\n"
unfolding sample digit left right sum D.spaces D.integer_text D.term_text D.constraint_text D.objective_text D.comment_text
    D.statement_text D.header_of D.statements_of D.file_text joined
sample-text = refl

good_left : D.GoodTerm 2 left
unfolding left D.variable_of D.digits_value
good_left = record { weight = record { digits = (omega arith, tt) }; digits = (omega arith, tt); low = omega arith; high = omega arith }

good_right : D.GoodTerm 2 right
unfolding right D.variable_of D.digits_value
good_right = record {
  weight = record { digits = (omega arith, (omega arith, tt)) };
  digits = (omega arith, tt);
  low = omega arith;
  high = omega arith;
}

pub sample-good : D.WellFormed sample
unfolding sample digit sum D.digits_value D.constraint_count
sample-good = record {
  variables = (record { digits = (omega arith, tt) }, refl);
  constraints = (record { digits = (omega arith, tt) }, refl);
  counted = refl;
  comments = (((λ q. omega arith), tt), tt);
  objective = ((good_left, (good_right, tt)), tt);
  single = omega arith;
  body = (record { terms = (good_left, (good_right, tt)); bound = record { digits = (omega arith, tt) } }, tt);
}

pub sample-within : WithinLimits sample
unfolding sample digit left right sum D.spaces D.integer_text D.term_text D.constraint_text D.objective_text D.comment_text
    D.statement_text D.header_of D.statements_of D.file_text joined D.variable_of D.digits_value D.integer_value weights_of in_i64
sample-within =
    let small : SumWithin (D.terms_of sum) = record { weights = omega arith; indexes = (omega arith, (omega arith, tt)) } in
    record { file = omega arith; statements = (tt, (tt, (small, ((small, refl), tt)))) }
