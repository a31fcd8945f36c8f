-- Each public function has one possible answer for each input: two that its contract allows are equal. None changes
-- what it is lent.
use mathlib.Core.Path.{◌≡◌, refl, sym, ap, ◌∙◌}
use Rattle.std.specs.Prelude.{ℕ, Option, Some, None}
use Rattle.beginnings.specs.Said.{said_min, said_comment}
use Rattle.beginnings.specs.declared.Comment.{Comment}
use Rattle.beginnings.proofs.read_min.Reads as read-min
use Rattle.beginnings.proofs.read_comment.Reads as read-comment

-- ---- an answer is known by what it says

pub said-min : (r r' : Option ℕ) → said_min r ≡ said_min r' → r ≡ r'
said-min (Some k) (Some l) e = cc
said-min (Some k) None e = cc
said-min None (Some l) e = cc
said-min None None e = refl

pub said-comment : (r r' : Option Comment) → said_comment r ≡ said_comment r' → r ≡ r'
said-comment (Some a) (Some b) e =
    let f : a.first ≡ b.first = cc in
    let c : a.count ≡ b.count = cc in
    let t : a.taken ≡ b.taken = cc in
    ap Some (rw (f, c, t))
said-comment (Some a) None e = cc
said-comment None (Some b) e = cc
said-comment None None e = refl

-- ---- the functions

pub read-min-one : (κs : _) (a : _) (r r' : _) (s s' : _) → read-min.Post κs a r s → read-min.Post κs a r' s' → r ≡ r'
read-min-one κs a r r' s s' p q = said-min r r' (p ∙ sym q)

pub read-comment-one : (κs : _) (a : _) (r r' : _) (s s' : _) → read-comment.Post κs a r s → read-comment.Post κs a r' s' → r ≡ r'
read-comment-one κs a r r' s s' p q = said-comment r r' (p ∙ sym q)
