-- The kinds of rows in the code's words: what a number in the column of kinds says, and how the terms of a row are
-- written.
use Rattle.std.specs.Prelude.{Bool, true, false, ℤ, pos, negsuc, Option, Some, None, Result, Ok, Err}
use Rattle.definitions.specs.Refusal.{fault}
use Rattle.definitions.specs.declared.Fault.{Fault}
use Rattle.definitions.specs.Table as table
use Rattle.definitions.specs.declared.Kind.{Kind}
use Rattle.definitions.specs.declared.Kind.TheVariants.{AtLeast as at_least, AtMost as at_most, Equal as equal, Objective as objective}
use Rattle.definitions.specs.declared.Mode.{Mode}
use Rattle.definitions.specs.Back.{is_goal}
use Rattle.shown.specs.declared.terms.Style.{Style}
use Rattle.printed.specs.declared.kinds.Shape.{Shape}

abbrev pub is_at_most : Kind → Bool
is_at_most at_least = false
is_at_most at_most = true
is_at_most equal = false
is_at_most objective = false

abbrev pub is_equal : Kind → Bool
is_equal at_least = false
is_equal at_most = false
is_equal equal = true
is_equal objective = false

abbrev pub style_of : Shape → Mode → Style
style_of s m = record { unit = s.unit; flip = is_at_most s.kind; plain = m.plain; apart = is_goal s.kind; first = m.first }

abbrev pub weighted_sort : Kind → ℤ → Result (Option Shape) Fault
weighted_sort k b = Ok (Some (record { kind = k; unit = false; bound = b }))

-- 11: "a negative cardinality bound"
abbrev pub cardinality_sort : Kind → ℤ → Result (Option Shape) Fault
cardinality_sort k (pos n) = Ok (Some (record { kind = k; unit = true; bound = pos n }))
cardinality_sort k (negsuc n) = Err (fault 11)

-- what a number in the column of kinds says of a row with the bound b
abbrev pub sort_said : table.Sort → ℤ → Result (Option Shape) Fault
sort_said table.remark b = Ok None
sort_said table.clause b = cardinality_sort at_least (pos 1)
sort_said table.unknown b = Err (fault 11)
sort_said (table.weighted k) b = weighted_sort k b
sort_said (table.cardinality k) b = cardinality_sort k b
