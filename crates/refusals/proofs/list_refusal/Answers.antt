-- `list_refusal` meets its contract: the line is put where its length fits.
use native.Mathlib.Omega.{arith}
use mathlib.Core.Path.{sym, ap, ◌∙◌}
use Prim.Native.Nat.{◌+◌, ◌≤◌}
use lib.ListN.{length}
use Rattle.definitions.specs.Refusal.{refusal, accept}
use Rattle.definitions.specs.House.{refused_line}
use Rattle.laws.proofs.Puts.{put-at-fits, put-in-fits, put-at-full, put-in-full}
use Rattle.refusals.proofs.list_refusal.Goals as goal

pub returns-then-refusal_length-out : goal.returns-then-refusal_length-out
returns-then-refusal_length-out c =
    record {
      answer = sym (put-at-full _ 0 _ (omega (arith, c.refusal_length.ensures, c.if-refusal_length-out.true)));
      after = sym
          (put-in-full _ 0 _ (omega (arith, c.refusal_length.ensures, c.if-refusal_length-out.true)));
    }

pub returns : goal.returns
returns c =
    let h : 0 + length (refused_line (refusal c.args.number c.args.place)) ≤ length c.args.out.now = omega
    (arith, c.refusal_length.ensures, c.if-refusal_length-out.false) in
    record {
      answer = ap accept c.put_refusal.ensures.place
          ∙ sym (put-at-fits _ 0 _ h);
      after = c.put_refusal.ensures.after ∙ sym (put-in-fits _ 0 _ h);
    }
