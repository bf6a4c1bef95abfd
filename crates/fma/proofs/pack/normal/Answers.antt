-- `fma::pack::normal` meets its contract: one word is shifted left by its leading zeros, and two are shifted right by as many bits as the upper one has. Assumes nothing.
use Rattle.std.proofs.Common.{◌≡◌, ℕ, ◌+◌, ◌-◌, ◌*◌, ◌%◌, ◌^◌, ◌<◌, ◌≤◌, sym, ap, ◌∙◌, subst, inl, le_trans, le_of_eq, lt_of_lt_of_le, le-add_right, lt_of_le_of_lt, mul-le-mul_right, mod-eq_of_lt, mul_assoc, add_comm, pos_of_ne-zero, arith, lit<, pow-add}
use lib.Arith.{digits_lt}
use lib.Count.{count_leading_zeros}
use Rattle.fma.specs.Words.{words}
use Rattle.fma.specs.Sticky.{Sticky}
use Rattle.fma.specs.Pack.{Normal}
use Rattle.fma.proofs.Leading.{Leading, leading, shifted-low, shifted-high}
use Rattle.fma.proofs.StickyBit.{sticky-via, lt-of-sticky, ge-of-sticky}
use Rattle.fma.proofs.pack.normal.Goals as goal

-- ---- where the upper word is 0, nothing was lost
one_word : (h l e z : ℕ) → h ≡ 0 → l < 2 ^ 64 → 64 ≤ e → Leading l z → Normal (l * 2 ^ z % 2 ^ 64) (e - z) (words h l) e
one_word h l e z H L E t =
    let same : l * 2 ^ z % 2 ^ 64 ≡ l * 2 ^ z = mod-eq_of_lt (shifted-high l z z 64 t (high z t.less)) in
    let only : words h l ≡ l = omega arith in
    subst (λ (m : ℕ). Normal m (e - z) (words h l) e) (sym same)
    (record {
      top = shifted-low l z z 63 t (low z t.less);
      near = below e z;
      stands =
          λ s w.
          inl
          (mul_assoc l (2 ^ z) (2 ^ (e - z))
          ∙ ap (λ (x : ℕ). l * x) (sym (pow-add 2 z (e - z)) ∙ ap (λ (x : ℕ). 2 ^ x) (rest e z E t.less))
          ∙ ap (λ (x : ℕ). x * 2 ^ e) (sym only)
          ∙ w.clean (lt_of_le_of_lt (le_of_eq only) L));
    })
  where
    low : (z : ℕ) → z < 64 → 63 - z + z ≡ 63
    low z h = omega arith

    high : (z : ℕ) → z < 64 → 64 - z + z ≡ 64
    high z h = omega arith

    below : (e z : ℕ) → e - z ≤ e + 64
    below e z = omega arith

    rest : (e z : ℕ) → 64 ≤ e → z < 64 → z + (e - z) ≡ e
    rest e z E Z = omega arith

-- ---- two words with z leading zeros have 128 - z bits, so 64 are left
module _ (h l z : ℕ) (L : l < 2 ^ 64) (t : Leading h z) where
  words-lt : words h l < 2 ^ (64 + (64 - z))
  words-lt = lt_of_lt_of_le (digits_lt {q = h} {m = 2 ^ (64 - z)} {r = l} {c = 2 ^ 64} t.high L) (le_of_eq (sym (pow-add 2 (64 - z) 64) ∙ ap (λ (x : ℕ). 2 ^ x) (add_comm (64 - z) 64)))

  words-ge : 2 ^ (63 + (64 - z)) ≤ words h l
  words-ge = le_trans (le_of_eq (ap (λ (x : ℕ). 2 ^ x) (sum z t.less) ∙ pow-add 2 (63 - z) 64)) (le_trans (mul-le-mul_right (2 ^ 64) t.low) (le-add_right (h * 2 ^ 64) l))
    where
      sum : (z : ℕ) → z < 64 → 63 + (64 - z) ≡ 63 - z + 64
      sum z Z = omega arith

  two-words : (a b e : ℕ) → Sticky (words a b) (64 - z) (words h l) → Normal b (e + (64 - z)) (words h l) e
  two-words a b e v =
      let r = 64 - z in
      let is : words a b ≡ b = only a b (lt-of-sticky (words a b) (words h l) r 64 (lit< tt) words-lt v) in
      let u : Sticky b r (words h l) = subst (λ (x : ℕ). Sticky x r (words h l)) is v in
      record {
        top = ge-of-sticky b (words h l) r 63 words-ge u;
        near = most e z;
        stands = λ s w. subst (λ (x : ℕ). Sticky b x s) (add_comm r e) (sticky-via b (words h l) s r e u w.sticky);
      }
    where
      only : (a b : ℕ) → words a b < 2 ^ 64 → words a b ≡ b
      only a b k = omega arith

      most : (e z : ℕ) → e + (64 - z) ≤ e + 64
      most e z = omega arith

low-pos : (h l : ℕ) → h ≡ 0 → 0 < words h l → 0 < l
low-pos h l e p = omega arith

pub returns-then-h-eq0 : goal.returns-then-h-eq0
returns-then-h-eq0 c =
    one_word c.args.h c.args.l c.args.e (count_leading_zeros 64 c.args.l) c.if-h-eq0.true c.ranges.l.fits c.requires.1 ((let it : Leading c.args.l (count_leading_zeros 64 c.args.l) = leading c.args.l (low-pos c.args.h c.args.l c.if-h-eq0.true c.requires.0) c.ranges.l.fits in it))

pub returns : goal.returns
returns c =
    let a = c.args in
    let r = c.wide-j.result in
    two-words a.h a.l (count_leading_zeros 64 a.h) c.ranges.l.fits (leading a.h (pos_of_ne-zero c.if-h-eq0.false) c.ranges.h.fits) r.hi r.lo a.e c.wide-j.ensures
