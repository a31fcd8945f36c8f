-- `blanks::lf_in_group` meets its contract: the lowest mark is the first LF's. Assumes nothing.
use mathlib.Core.Path.{sym, ap, ◌∙◌}
use native.Mathlib.Omega.{arith}
use lib.Count.{count_trailing_zeros}
use lib.Dec.{eqb}
use lib.Lanes.{chunk}
use mir.Syntax.{w8}
use Rattle.definitions.specs.Bytes.{lf}
use Rattle.std.proofs.lemmas.Simd.{length-chunk, bitmask_splat, leading_from_mask_l, trailing_mask_l}
use Rattle.blanks.proofs.LfGroups.{first-among}
use Rattle.blanks.proofs.lf_in_group.Goals as goal

pub returns-then-found-eq0 : goal.returns-then-found-eq0
returns-then-found-eq0 c =
    let s = c.args.group.now in
    let long = length-chunk 0 16 s (omega (arith, c.requires)) in
    let marks = bitmask_splat w8 eqb (chunk 0 16 s) 16 lf long (omega arith) in
    first-among s 16 16 c.requires (sym (leading_from_mask_l (λ b. eqb b lf) (chunk 0 16 s) (sym marks ∙ c.if-found-eq0.true) ∙ long))

pub returns : goal.returns
returns c =
    let s = c.args.group.now in
    let long = length-chunk 0 16 s (omega (arith, c.requires)) in
    let marks = bitmask_splat w8 eqb (chunk 0 16 s) 16 lf long (omega arith) in
    first-among s 16 _ c.requires (ap (count_trailing_zeros 64) marks ∙ trailing_mask_l (λ b. eqb b lf) 64 (chunk 0 16 s) (omega arith) (omega arith))
