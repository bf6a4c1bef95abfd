-- The numbers of the carrier's error: with D for 2 ^ 1074, a rotation's square is at most ρ, (1 + 2 ^ -44) D²; one step's error has a square of at most
-- β, 37 / 2 ^ 106 of D², for a carrier of size 1; and a carrier's square stays under L, 131 / 128 of D², times the amplitude's. Assumes nothing.
use mathlib.Core.Path.{◌≡◌, sym, ap, ◌∙◌}
use Prim.Native.Nat.{ℕ, zero, suc, ◌+◌, ◌-◌, ◌*◌, ◌^◌, ◌≤◌, ◌<◌}
use native.Mathlib.Nat.{le_refl, le_trans, le_of_eq, add-le-add, mul_assoc, mul-pos, mul-mul-mul_comm, mul-le-mul, mul-le-mul_left, mul-le-mul_right, le_of_mul-le-mul_left, le_of_mul-le-mul_right, pow-suc, pow-zero}
use native.Mathlib.Omega.{arith}
use lib.Dec.{lit≤, lit<}
use lib.Pow.{pow_pos}
use Rattle.accuracy.proofs.Growth.{growth_times, square-power, power-positive}
use Rattle.accuracy.proofs.Product.{lost}

abbrev pub D : ℕ
D = 2 ^ 1074

abbrev pub ρ : ℕ
ρ = (2 ^ 44 + 1) * 2 ^ 2104

abbrev pub β : ℕ
β = 37 * 2 ^ 2042

abbrev pub L : ℕ
L = 131 * 2 ^ 2141

-- ---- one step: S is the square of its error, N the carrier's square, R the rotation's, M the amplitude's
chain : (S N R M r Q l b c e P : ℕ) → 0 < P → S * P ≤ 36 * (N * R) + c → Q * N ≤ l * M → R ≤ r → Q * c ≤ e * (M * r) → 36 * l + e ≤ b * P → Q * S ≤ b * M * r
chain S N R M r Q l b c e P p h n t u v =
    le_of_mul-le-mul_right {m = Q * S} {n = b * M * r} {k = P}
    (le_trans (le_of_eq (mul_assoc Q S P))
    (le_trans (mul-le-mul_left Q h)
    (le_trans (le_of_eq (opened Q N R c))
    (le_trans (add-le-add (mul-le-mul_left 36 (mul-le-mul n t)) u)
    (le_trans (le_of_eq (joined l M r e))
    (le_trans (mul-le-mul_right (M * r) v) (le_of_eq (turned b P M r))))))))
    p
  where
    opened : (Q N R c : ℕ) → Q * (36 * (N * R) + c) ≡ 36 * (Q * N * R) + Q * c
    opened Q N R c = omega arith

    joined : (l M r e : ℕ) → 36 * (l * M * r) + e * (M * r) ≡ (36 * l + e) * (M * r)
    joined l M r e = omega arith

    turned : (b P M r : ℕ) → b * P * (M * r) ≡ b * M * r * P
    turned b P M r = omega arith

pub step-bound : (S N R M : ℕ) → S * 2 ^ 106 ≤ 36 * (N * R) + lost → D * D * N ≤ L * M → R ≤ ρ → 2 ^ 1748 ≤ M → D * D * S ≤ β * M * ρ
step-bound S N R M h n t m =
    chain S N R M ρ (D * D) L β lost (2 ^ 510) (2 ^ 106) (pow_pos 106) h n t
    (le_trans (lit≤ tt) (mul-le-mul_left (2 ^ 510) (mul-le-mul_right ρ m)))
    (lit≤ tt)

-- the first product, of the start and the amplitude
pub first-bound : (S N M : ℕ) → S * 2 ^ 106 ≤ 36 * (N * M) + lost → N ≤ ρ → 2 ^ 1748 ≤ M → S ≤ β * M
first-bound S N M h n m =
    plain S β M
    (chain S N M 1 M 1 ρ β lost (2 ^ 510) (2 ^ 106) (pow_pos 106) h (one N ρ n) (le_refl M)
    (le_trans (lit≤ tt) (mul-le-mul_left (2 ^ 510) (le_trans m (le_of_eq (sym (by_one M))))))
    (lit≤ tt))
  where
    one : (N r : ℕ) → N ≤ r → 1 * N ≤ r * 1
    one N r h = omega arith

    by_one : (M : ℕ) → 1 * M ≡ M
    by_one M = omega arith

    plain : (S b M : ℕ) → 1 * S ≤ b * 1 * M → S ≤ b * M
    plain S b M h = omega arith

-- ---- powers of ρ
powers : (k : ℕ) → D ^ k * D ^ k ≤ ρ ^ k
powers zero = le_of_eq (ap (λ (z : ℕ). z * z) (pow-zero D) ∙ sym (pow-zero ρ))
powers (suc k) =
    le_trans (le_of_eq (ap (λ (z : ℕ). z * z) (pow-suc D k) ∙ mul-mul-mul_comm (D ^ k) D (D ^ k) D)) (le_trans (mul-le-mul (powers k) (lit≤ tt)) (le_of_eq (sym (pow-suc ρ k))))

-- a step's error at its place in the chain
pub step-there : (k S M : ℕ) → D * D * S ≤ β * M * ρ → D ^ suc k * D ^ suc k * S ≤ β * M * ρ ^ suc k
step-there k S M h =
    le_trans (le_of_eq (ap (λ (z : ℕ). z * z * S) (pow-suc D k) ∙ opened (D ^ k) D S))
    (le_trans (mul-le-mul (powers k) h) (le_of_eq (turned (ρ ^ k) β M ρ ∙ ap (λ (z : ℕ). β * M * z) (sym (pow-suc ρ k)))))
  where
    opened : (p d S : ℕ) → p * d * (p * d) * S ≡ p * p * (d * d * S)
    opened p d S = omega arith

    turned : (q b M r : ℕ) → q * (b * M * r) ≡ b * M * (q * r)
    turned q b M r = omega arith

-- ρ ^ k (2 ^ 44 - k) ≤ 2 ^ 44 D ^ 2 k
pub slow : (k : ℕ) → ρ ^ k * (2 ^ 44 - k) ≤ 2 ^ 44 * (D ^ k * D ^ k)
slow k = le_trans (growth_times (2 ^ 44) (2 ^ 2104) k) (le_of_eq (ap (λ (z : ℕ). 2 ^ 44 * z) (sym (square-power D k))))

pub far : (k : ℕ) → k ≤ 65536 → 2 ^ 44 - 65536 ≤ 2 ^ 44 - k
far k h = omega arith

-- ---- the carrier's square N, from the exact carrier's W and the error's E
cut : (N d r n k A : ℕ) → 0 < d → 64 * (d * N) ≤ r * A → r * (n - k) ≤ n * d → 64 * (n - k) * N ≤ n * A
cut N d r n k A p h g = by (n - k) g
  where
    by : (f : ℕ) → r * f ≤ n * d → 64 * f * N ≤ n * A
    by f g =
        le_of_mul-le-mul_right {m = 64 * f * N} {n = n * A} {k = d}
        (le_trans (le_of_eq (opened f N d)) (le_trans (mul-le-mul_right f h) (le_trans (le_of_eq (turned r A f)) (le_trans (mul-le-mul_right A g) (le_of_eq (closed n d A))))))
        p
      where
        opened : (f N d : ℕ) → 64 * f * N * d ≡ 64 * (d * N) * f
        opened f N d = omega arith

        turned : (r A f : ℕ) → r * A * f ≡ r * f * A
        turned r A f = omega arith

        closed : (n d A : ℕ) → n * d * A ≡ n * A * d
        closed n d A = omega arith

-- all errors' part of it, with 65536 for k + 1
abbrev A : ℕ
A = 65 * ρ + 64 * 65 * (65536 * 65536) * β

pub size-bound : (N W E M k : ℕ) → suc k ≤ 65536 → 64 * (D ^ suc k * D ^ suc k * N) ≤ 65 * W + 64 * 65 * E → W ≤ ρ * M * ρ ^ k → E ≤ suc k * suc k * (β * M * ρ ^ k)
    → D * D * N ≤ L * M
size-bound N W E M k K h w e =
    le_of_mul-le-mul_left {m = D * D * N} {n = L * M} {k = 64 * (2 ^ 44 - 65536)}
    (le_trans (mul-le-mul_right (D * D * N) (mul-le-mul_left 64 (far k (less k K))))
    (le_trans (cut (D * D * N) (D ^ k * D ^ k) (ρ ^ k) (2 ^ 44) k (A * M) (mul-pos (power-positive D k (pow_pos 1074)) (power-positive D k (pow_pos 1074))) all (slow k))
    (le_trans (le_of_eq (sym (mul_assoc (2 ^ 44) A M))) (le_trans (mul-le-mul_right M (lit≤ tt)) (le_of_eq (mul_assoc (64 * (2 ^ 44 - 65536)) L M))))))
    (lit< tt)
  where
    less : (k : ℕ) → suc k ≤ 65536 → k ≤ 65536
    less k h = omega arith

    opened : (p d N : ℕ) → p * d * (p * d) * N ≡ p * p * (d * d * N)
    opened p d N = omega arith

    joined : (r M q b s : ℕ) → 65 * (r * M * q) + 64 * 65 * (s * (b * M * q)) ≡ q * ((65 * r + 64 * 65 * s * b) * M)
    joined r M q b s = omega arith

    all : 64 * (D ^ k * D ^ k * (D * D * N)) ≤ ρ ^ k * (A * M)
    all =
        le_trans (le_of_eq (ap (λ (z : ℕ). 64 * z) (sym (ap (λ (z : ℕ). z * z * N) (pow-suc D k) ∙ opened (D ^ k) D N))))
        (le_trans h
        (le_trans (add-le-add (mul-le-mul_left 65 w) (mul-le-mul_left (64 * 65) (le_trans e (mul-le-mul_right (β * M * ρ ^ k) (mul-le-mul K K)))))
        (le_of_eq (joined ρ M (ρ ^ k) β (65536 * 65536)))))

-- ---- the error of one part, from the bound of its square
pub last-bound : (k : ℕ) → k ≤ 65536 → β * ρ ^ k * 2 ^ 98 ≤ D ^ suc k * D ^ suc k
last-bound k K =
    le_of_mul-le-mul_right {m = β * ρ ^ k * 2 ^ 98} {n = D ^ suc k * D ^ suc k} {k = 2 ^ 44 - k}
    (le_trans (le_of_eq (opened β (ρ ^ k) (2 ^ 98) (2 ^ 44 - k)))
    (le_trans (mul-le-mul_left (β * 2 ^ 98) (slow k))
    (le_trans (le_of_eq (sym (mul_assoc (β * 2 ^ 98) (2 ^ 44) (D ^ k * D ^ k))))
    (le_trans (mul-le-mul_right (D ^ k * D ^ k) (le_trans (lit≤ tt) (mul-le-mul_left (D * D) (far k K))))
    (le_of_eq (closed D (2 ^ 44 - k) (D ^ k) ∙ ap (λ (z : ℕ). z * z * (2 ^ 44 - k)) (sym (pow-suc D k))))))))
    (le_trans (lit< tt) (far k K))
  where
    opened : (b r c f : ℕ) → b * r * c * f ≡ b * c * (r * f)
    opened b r c f = omega arith

    closed : (d f p : ℕ) → d * d * f * (p * p) ≡ p * d * (p * d) * f
    closed d f p = omega arith
