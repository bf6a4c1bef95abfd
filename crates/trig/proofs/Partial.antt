-- `partial`, which adds term after term, and `folded`, Horner's form from the last term inwards, are one number. Both are `over`, the sum
-- over the last term's denominator: `partial` adds to it at its end, and `folded` hands it its first term. Assumes nothing.
use mathlib.Core.Path.{◌≡◌, refl, sym, ap, ◌∙◌}
use mathlib.Core.Bool.{Bool, true, false, not, cond, ◌&&◌}
use Prim.Native.Nat.{ℕ, zero, suc, ◌+◌, ◌*◌, ◌^◌, ◌<◌}
use native.Mathlib.Nat.{add-zero, zero-add, add-suc, suc-add, zero-lt-suc}
use native.Mathlib.Nat.{mul_comm, mul_assoc, mul_left_comm, mul-one, mul-mul-mul_comm, mul-pos, pow-suc, one-le-pow}
use native.Mathlib.Omega.{arith}
use lib.Ieee.{unlike}
use Rattle.exact.specs.Signed.{Signed, Same, signed, times, plus_s}
use Rattle.trig.specs.Series.{factorial, odd, term, partial}
use Rattle.trig.proofs.Series.{ratio, ratios, folded}

-- ---- from one term to the next: powers, factorials, denominators
two-more : (k o : ℕ) → 2 * suc k + o ≡ suc (suc (2 * k + o))
two-more k o = omega arith

power-next : (x o k : ℕ) → x ^ (2 * suc k + o) ≡ x ^ (2 * k + o) * (x * x)
power-next x o k =
    ap (λ (n : ℕ). x ^ n) (two-more k o)
    ∙ pow-suc x (suc (2 * k + o))
    ∙ ap (λ (n : ℕ). n * x) (pow-suc x (2 * k + o))
    ∙ mul_assoc (x ^ (2 * k + o)) x x

-- term k's factorial, and its denominator
abbrev pub fact : ℕ → ℕ → ℕ
fact o k = factorial (2 * k + o)

abbrev pub bottom : ℕ → ℕ → ℕ → ℕ
bottom q o k = q ^ (2 * k + o) * fact o k

pub fact-next : (o k : ℕ) → fact o (suc k) ≡ fact o k * ((2 * k + 1 + o) * (2 * k + 2 + o))
unfolding factorial
fact-next o k = ap factorial (two-more k o) ∙ by (2 * k + o) (2 * k + 1 + o) (2 * k + 2 + o) (fact o k) (omega arith) (omega arith)
  where
    by : (p a b f : ℕ) → suc p ≡ a → suc (suc p) ≡ b → suc (suc p) * (suc p * f) ≡ f * (a * b)
    by p a b f e g = (λ i. g i * (e i * f)) ∙ simp (mul_comm, mul_left_comm)

factorial-some : (p : ℕ) → 0 < factorial p
unfolding factorial
factorial-some zero = zero-lt-suc 0
factorial-some (suc p) = mul-pos (zero-lt-suc p) (factorial-some p)

pub fact-some : (o k : ℕ) → 0 < fact o k
fact-some o k = factorial-some (2 * k + o)

bottom-next : (q o k : ℕ) → bottom q o (suc k) ≡ bottom q o k * ratio q o k
unfolding ratio
bottom-next q o k =
    (λ i. power-next q o k i * fact-next o k i)
    ∙ mul-mul-mul_comm (q ^ (2 * k + o)) (q * q) (fact o k) ((2 * k + 1 + o) * (2 * k + 2 + o))

bottom_ratios : (q o d k : ℕ) → bottom q o (k + d) ≡ bottom q o k * ratios q o d k
unfolding ratios
bottom_ratios q o zero k = ap (bottom q o) (add-zero k) ∙ sym (mul-one (bottom q o k))
bottom_ratios q o (suc d) k =
    ap (bottom q o) (add-suc k d ∙ sym (suc-add k d))
    ∙ bottom_ratios q o d (suc k)
    ∙ ap (λ (n : ℕ). n * ratios q o d (suc k)) (bottom-next q o k)
    ∙ mul_assoc (bottom q o k) (ratio q o k) (ratios q o d (suc k))

-- ---- the signs: two more steps change nothing, one more turns them
odd-twice : (o k : ℕ) → odd (2 * k + o) ≡ odd o
unfolding odd
odd-twice o zero = ap odd (zero-add o)
odd-twice o (suc k) = ap odd (two-more k o) ∙ again (odd (2 * k + o)) ∙ odd-twice o k
  where
    again : (b : Bool) → not (not b) ≡ b
    again true = refl
    again false = refl

unlike-not : (b s : Bool) → unlike (not b) s ≡ not (unlike b s)
unlike-not true true = refl
unlike-not true false = refl
unlike-not false true = refl
unlike-not false false = refl

-- ---- n terms over term n's denominator; s is the sign of r's odd powers
abbrev none : Signed
none = record { plus = 0; less = 0 }

unfoldable over : Bool → ℕ → ℕ → ℕ → ℕ → Signed
over s q o x zero = none
over s q o x (suc n) = times (ratio q o n) (plus_s (over s q o x n) (signed (unlike (odd n) s) (x ^ (2 * n + o))))

-- one more term z / d for t / b and for a / d, which are one fraction
add_term : (d g b : ℕ) (t a z : Signed) → Same (times d t) (times b a)
    → Same (times (d * g) (plus_s (times d t) (times b z))) (times (b * d) (times g (plus_s a z)))
add_term d g b t a z e =
    let m : d * g * (d * t.plus + b * a.less) ≡ d * g * (b * a.plus + d * t.less) = ap (λ (n : ℕ). d * g * n) e in
    omega arith

partial-over : (s : Bool) (q o x n : ℕ)
    → Same (times (bottom q o n) (partial s x q o n).top) (times (partial s x q o n).bottom (over (s && odd o) q o x n))
unfolding over partial term
partial-over s q o x zero = omega arith
partial-over s q o x (suc n) =
    let f = partial s x q o n in
    rw (bottom-next q o n, odd-twice o n)
    (add_term (bottom q o n) (ratio q o n) f.bottom f.top (over (s && odd o) q o x n)
    (signed (unlike (odd n) (s && odd o)) (x ^ (2 * n + o))) (partial-over s q o x n))

-- no denominator is 0
pub partial-some : (s : Bool) (q o x n : ℕ) → 0 < q → 0 < (partial s x q o n).bottom
unfolding partial term
partial-some s q o x zero h = zero-lt-suc 0
partial-some s q o x (suc n) h = mul-pos (partial-some s q o x n h) (mul-pos (one-le-pow (2 * n + o) q h) (fact-some o n))

-- r with its sign turned where s says so
abbrev pub facing : Bool → Signed → Signed
facing s r = record { plus = cond s r.less r.plus; less = cond s r.plus r.less }

-- the first of the terms that are left, y g w, goes over to the sum a
move-term : (b : Bool) (w g y z : ℕ) (a r t : Signed)
    → Same (plus_s (times w (times g (plus_s a (signed b y)))) (facing (not b) (times (y * z) r))) t
    → Same (plus_s (times (g * w) a) (facing b (times y (record { plus = g * w + z * r.less; less = z * r.plus })))) t
move-term true w g y z a r t e = omega arith
move-term false w g y z a r t e = omega arith

-- n terms, and d more from term n on
folded-over : (s : Bool) (q o x d n : ℕ)
    → Same (plus_s (times (ratios q o d n) (over s q o x n)) (facing (unlike (odd n) s) (times (x ^ (2 * n + o)) (folded q o x d n))))
    (over s q o x (n + d))
unfolding over ratios folded odd
folded-over s q o x zero n = rw add-zero (nothing (unlike (odd n) s) (x ^ (2 * n + o)) (over s q o x n))
  where
    nothing : (b : Bool) (y : ℕ) (a : Signed) → Same (plus_s (times 1 a) (facing b (times y none))) a
    nothing true y a = omega arith
    nothing false y a = omega arith
folded-over s q o x (suc d) n =
    move-term (unlike (odd n) s) (ratios q o d (suc n)) (ratio q o n) (x ^ (2 * n + o)) (x * x) (over s q o x n) (folded q o x d (suc n))
    (over s q o x (n + suc d))
    (rw (power-next x o n, unlike-not (odd n) s, suc-add n d ∙ sym (add-suc n d)) at (folded-over s q o x d (suc n)))

-- THE TWO ARE ONE: a partial sum of n terms is x ^ o folded / (q ^ o o! ratios), with r's sign where the powers are odd
pub partial-is : (s : Bool) (q o x n : ℕ)
    → Same (times (bottom q o 0 * ratios q o n 0) (partial s x q o n).top)
    (times (partial s x q o n).bottom (facing (s && odd o) (times (x ^ (2 * 0 + o)) (folded q o x n 0))))
unfolding odd over
partial-is s q o x n =
    let f = partial s x q o n in
    let w = ratios q o n 0 in
    let b = s && odd o in
    let r = times (x ^ (2 * 0 + o)) (folded q o x n 0) in
    via w f.bottom (times (bottom q o 0 * w) f.top) (over b q o x n) (facing b r)
    (rw (← bottom_ratios q o n 0, zero-add n) (partial-over s q o x n))
    (rw (plain b, zero-add n) at (folded-over b q o x n 0))
  where
    plain : (b : Bool) → unlike false b ≡ b
    plain true = refl
    plain false = refl

    via : (w m : ℕ) (t a r : Signed) → Same t (times m a) → Same (plus_s (times w none) r) a → Same t (times m r)
    via w m t a r e g =
        let k : m * (w * 0 + r.plus + a.less) ≡ m * (a.plus + (w * 0 + r.less)) = ap (λ (n : ℕ). m * n) g in
        omega arith
