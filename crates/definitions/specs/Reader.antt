-- What is a step of reading? "Each reading step takes the rest of the file from where the last one stopped" (01, "The
-- text"). A reader says what stands at the front of the rest, with how many bytes it takes, or what it is refused for.
use Rattle.std.specs.Prelude.{ℕ, ◌+◌, List, drop}
use Rattle.definitions.specs.Refusal.{Fault}

pub data Got (A : Type 0) : Type 0 where
  none : Fault → Got A
  got : A → ℕ → Got A

abbrev pub Reader : Type 0 → Type 0
Reader A = List ℕ → Got A

-- n bytes more
abbrev pub more : {A : Type 0} → ℕ → Got A → Got A
more n (none e) = none e
more n (got a m) = got a (n + m)

abbrev pub then_at : {A B : Type 0} → Got A → (A → Reader B) → List ℕ → Got B
then_at (none e) k s = none e
then_at (got a n) k s = more n (k a (drop n s))

-- p, then, on the rest, the reader that p's answer gives
unfoldable pub chain : {A B : Type 0} → Reader A → (A → Reader B) → Reader B
chain p k s = then_at (p s) k s

unfoldable pub done : {A : Type 0} → A → Reader A
done a s = got a 0

unfoldable pub fail : {A : Type 0} → Fault → Reader A
fail e s = none e
