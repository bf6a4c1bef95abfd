-- Laws of names: which lists of bytes are one; a name's bytes and its three numbers say the same, so what was read is written back,
-- and names are compared byte by byte. The one idea: byte i of the two words, zero past the length, is byte i of the list.
-- Assumes nothing.
use Rattle.std.specs.Prelude.{Some, None}
use Prim.Native.Nat.{ℕ, zero, suc, ◌+◌, ◌-◌, ◌^◌, ◌≤◌, ◌<◌}
use mathlib.Core.Path.{◌≡◌, refl, ap, sym, ◌∙◌}
use mathlib.Core.Bool.{Bool, true, false, ◌&&◌, not, true≢false}
use mathlib.Core.Logic.{◌↔◌, ⊎_elim}
use mathlib.Core.List.{List, [], ◌∷◌, ◌++◌, append_assoc}
use native.Mathlib.Omega.{arith}
use native.Mathlib.Nat.{lt_of_le_of_lt, lt_of_lt_of_le, min-le_left, pow-le-pow_right}
use borrow.Author.Tests.{le-leb, leb-true, lt-ltb, ltb-true, eqb-true, eqb-false, eq-eqb, ne_eqb, not-true}
use lib.Dec.{leb, ltb, eqb, lit<}
use lib.ListN.{length, get_or, take, drop, length-append, length-take, length-drop, get_or-eq_default}
use lib.Seq.{ext_get_or, get_or-drop, get_or-take, length-take-le, take_at, drop_at}
use Rattle.exact.proofs.Naturals.{below_or}
use Rattle.naming.specs.declared.Name.{Name}
use Rattle.naming.specs.Name.{name_byte, is_zero, every, accepted, word_of, low_bytes, bytes_of_word, sixteen, bytes_of, past_end, named, naming_of, is_name, same_name, writable, written}
use Rattle.exact.proofs.Truth.{both}
use Rattle.naming.proofs.Places.{every-all, every-at, cut-zeros, part-le, part_same}
use Rattle.naming.proofs.Words.{length-low, low-of-word, word_lt, word-of-low, word_same, length-sixteen, first-at, second_at}

-- ---- which lists of bytes are a name

-- 0x21..0x7E without `=`
pub record Standing (b : ℕ) : Type 0 where
  pub from : 0x21 ≤ b
  pub to : b ≤ 0x7E
  pub other : b ≡ 0x3D → ⊥

pub standing : (b : ℕ) → (name_byte b ≡ true) ↔ Standing b
unfolding name_byte
standing b = (
  λ e.
      let outer = both (leb 0x21 b && leb b 0x7E) (not (eqb b 0x3D)) e in
      let inner = both (leb 0x21 b) (leb b 0x7E) outer.0 in
      record {
        from = leb-true 0x21 b inner.0;
        to = leb-true b 0x7E inner.1;
        other = eqb-false b 0x3D (not-true (eqb b 0x3D) outer.1);
      },
  λ s. simp (le-leb 0x21 b s.from, le-leb b 0x7E s.to, ne_eqb b 0x3D s.other),
)

-- 1..16 bytes that may stand in a name
pub record Fit (bytes : List ℕ) : Type 0 where
  pub some : 1 ≤ length bytes
  pub most : length bytes ≤ 16
  pub each : (k : ℕ) → k < length bytes → name_byte (get_or bytes k 0) ≡ true

pub fit : (bytes : List ℕ) → (accepted bytes ≡ true) ↔ Fit bytes
unfolding accepted
fit bytes = (
  λ e.
      let outer = both (leb 1 (length bytes) && leb (length bytes) 16) (every name_byte bytes) e in
      let inner = both (leb 1 (length bytes)) (leb (length bytes) 16) outer.0 in
      record {
        some = leb-true 1 (length bytes) inner.0;
        most = leb-true (length bytes) 16 inner.1;
        each = every-at name_byte bytes outer.1;
      },
  λ f. simp (le-leb 1 (length bytes) f.some, le-leb (length bytes) 16 f.most, every-all name_byte bytes f.each),
)

-- what is known once `from_bytes` has read a name
pub record Read (bytes : List ℕ) (n : Name) : Type 0 where
  pub ok : accepted bytes ≡ true
  pub is : n ≡ named bytes

pub read : (bytes : List ℕ) (n : Name) → naming_of bytes ≡ Some n → Read bytes n
unfolding naming_of
read bytes n e = by (accepted bytes) refl
  where
    by : (t : Bool) → accepted bytes ≡ t → Read bytes n
    by true a = let this : naming_of bytes ≡ Some (named bytes) = simp a in record { ok = a; is = cc }
    by false a =
        let this : naming_of bytes ≡ None = simp a in
        let never : true ≡ false = cc in
        absurd (true≢false never)

-- `from_bytes` accepts exactly the lists that are fit, and refuses every other
pub accepts : (bytes : List ℕ) → (naming_of bytes ≡ Some (named bytes)) ↔ Fit bytes
unfolding naming_of
accepts bytes = (λ e. (fit bytes).0 (read bytes (named bytes) e).ok, λ f. simp ((fit bytes).1 f))

pub refuses : (bytes : List ℕ) → (Fit bytes → ⊥) → naming_of bytes ≡ None
unfolding naming_of
refuses bytes unfit = by (accepted bytes) refl
  where
    by : (t : Bool) → accepted bytes ≡ t → naming_of bytes ≡ None
    by true a = absurd (unfit ((fit bytes).0 a))
    by false a = simp a

-- ---- which numbers are a name

pub record WellFormed (n : Name) : Type 0 where
  pub first_word : n.first < 2 ^ 64
  pub second_word : n.second < 2 ^ 64
  pub some : 1 ≤ n.len
  pub most : n.len ≤ 16
  pub stand : every name_byte (bytes_of n) ≡ true
  pub zeros : every is_zero (past_end n) ≡ true

pub well-formed : (n : Name) → (is_name n ≡ true) ↔ WellFormed n
unfolding is_name
well-formed n = (
  λ e.
      let to-zeros = both _ (every is_zero (past_end n)) e in
      let to-stand = both _ (every name_byte (bytes_of n)) to-zeros.0 in
      let to-most = both _ (leb n.len 16) to-stand.0 in
      let to_some = both _ (leb 1 n.len) to-most.0 in
      let words = both (ltb n.first (2 ^ 64)) (ltb n.second (2 ^ 64)) to_some.0 in
      record {
        first_word = ltb-true n.first (2 ^ 64) words.0;
        second_word = ltb-true n.second (2 ^ 64) words.1;
        some = leb-true 1 n.len to_some.1;
        most = leb-true n.len 16 to-most.1;
        stand = to-stand.1;
        zeros = to-zeros.1;
      },
  λ w.
      simp (
        lt-ltb n.first (2 ^ 64) w.first_word,
        lt-ltb n.second (2 ^ 64) w.second_word,
        le-leb 1 n.len w.some,
        le-leb n.len 16 w.most,
        w.stand,
        w.zeros,
      ),
)

pub length-bytes : (n : Name) → n.len ≤ 16 → length (bytes_of n) ≡ n.len
unfolding bytes_of
length-bytes n most = length-take-le n.len (sixteen n.first n.second) (rw length-sixteen most)

pub length-past : (n : Name) → length (past_end n) ≡ 16 - n.len
unfolding past_end
length-past n = simp (length-drop, length-sixteen)

-- ---- from bytes to a name and back

below_256 : (bytes : List ℕ) → every name_byte bytes ≡ true → (k : ℕ) → get_or bytes k 0 < 256
unfolding every
below_256 [] e k = lit< tt
below_256 (b ∷ bs) e zero = let s = (standing b).0 (both (name_byte b) (every name_byte bs) e).0 in omega arith
below_256 (b ∷ bs) e (suc k) = below_256 bs (both (name_byte b) (every name_byte bs) e).1 k

module _ (bytes : List ℕ) (ok : accepted bytes ≡ true) where
  fits : Fit bytes
  fits = (fit bytes).0 ok

  stand : every name_byte bytes ≡ true
  stand = every-all name_byte bytes fits.each

  front_low : (k : ℕ) → get_or (take 8 bytes) k 0 < 256
  front_low k = lt_of_le_of_lt (part-le 8 bytes k) (below_256 bytes stand k)

  rest-low : (k : ℕ) → get_or (drop 8 bytes) k 0 < 256
  rest-low k = rw get_or-drop (below_256 bytes stand (8 + k))

  -- byte i of the two words is byte i of the list, or zero past its end
  named-at : (i : ℕ) → i < 16 → get_or (sixteen (word_of (take 8 bytes)) (word_of (drop 8 bytes))) i 0 ≡ get_or bytes i 0
  unfolding bytes_of_word
  named-at i h = ⊎_elim in_first in_second (below_or i 8)
    where
      first : ℕ
      first = word_of (take 8 bytes)

      second : ℕ
      second = word_of (drop 8 bytes)

      in_first : i < 8 → get_or (sixteen first second) i 0 ≡ get_or bytes i 0
      in_first m = rw (first-at first second i m, low-of-word 8 (take 8 bytes) front_low i m, get_or-take 8 bytes i 0 m)

      in_second : 8 ≤ i → get_or (sixteen first second) i 0 ≡ get_or bytes i 0
      in_second m =
          let up : i ≡ 8 + (i - 8) = omega arith in
          let less : i - 8 < 8 = omega arith in
          rw (up, second_at first second (i - 8), low-of-word 8 (drop 8 bytes) rest-low (i - 8) less, get_or-drop)

  -- the name that bytes are has those bytes
  pub bytes_back : bytes_of (named bytes) ≡ bytes
  unfolding bytes_of named
  bytes_back =
      let both_words = sixteen (word_of (take 8 bytes)) (word_of (drop 8 bytes)) in
      let long : length (take (length bytes) both_words) ≡ length bytes = length-bytes (named bytes) fits.most in
      ext_get_or 0 (take (length bytes) both_words) bytes long
      (λ i h.
      let inside : i < length bytes = rw long at h in
      rw (get_or-take (length bytes) both_words i 0 inside, named-at i (lt_of_lt_of_le inside fits.most)))

  zeros-behind : every is_zero (past_end (named bytes)) ≡ true
  unfolding past_end named
  zeros-behind =
      let n = length bytes in
      let both_words = sixteen (word_of (take 8 bytes)) (word_of (drop 8 bytes)) in
      every-all is_zero (drop n both_words)
      (λ k h.
      let inside : k < 16 - n = rw (length-past (named bytes)) at h in
      let below : n + k < 16 = omega arith in
      let past : n ≤ n + k = omega arith in
      rw (get_or-drop, named-at (n + k) below, get_or-eq_default bytes 0 past))

  -- and is well formed
  pub is-named : is_name (named bytes) ≡ true
  unfolding named
  is-named =
      (well-formed (named bytes)).1
      (record {
        first_word = word (take 8 bytes) (simp length-take (min-le_left 8 (length bytes))) front_low;
        second_word = word (drop 8 bytes) (simp length-drop (omega (arith, fits.most))) rest-low;
        some = fits.some;
        most = fits.most;
        stand = rw bytes_back stand;
        zeros = zeros-behind;
      })
    where
      word : (l : List ℕ) → length l ≤ 8 → ((k : ℕ) → get_or l k 0 < 256) → word_of l < 2 ^ 64
      word l short h = lt_of_lt_of_le (word_lt l h) (pow-le-pow_right (lit< tt) {j = 8} short)

module _ (n : Name) (ok : is_name n ≡ true) where
  formed : WellFormed n
  formed = (well-formed n).0 ok

  bytes-at : (k : ℕ) → get_or (bytes_of n) k 0 ≡ get_or (sixteen n.first n.second) k 0
  unfolding bytes_of past_end
  bytes-at = cut-zeros n.len (sixteen n.first n.second) formed.zeros

  first_back : word_of (take 8 (bytes_of n)) ≡ n.first
  unfolding sixteen bytes_of_word
  first_back =
      let both_words = sixteen n.first n.second in
      word_same (take 8 (bytes_of n)) (take 8 both_words) (part_same (bytes_of n) both_words bytes-at 8)
      ∙ ap word_of (take_at (low_bytes 8 n.first) (low_bytes 8 n.second) 8 (length-low 8 n.first))
      ∙ word-of-low 8 n.first formed.first_word

  second_back : word_of (drop 8 (bytes_of n)) ≡ n.second
  unfolding bytes_of_word
  second_back =
      word_same (drop 8 (bytes_of n)) (low_bytes 8 n.second)
      (λ k. rw (get_or-drop, bytes-at (8 + k)) (second_at n.first n.second k))
      ∙ word-of-low 8 n.second formed.second_word

  -- a well-formed name is the name that its bytes are
  pub named_back : named (bytes_of n) ≡ n
  unfolding named
  named_back i = record { first = first_back i; second = second_back i; len = length-bytes n formed.most i }

  pub bytes-accepted : accepted (bytes_of n) ≡ true
  bytes-accepted =
      (fit (bytes_of n)).1
      (record {
        some = rw (length-bytes n formed.most) formed.some;
        most = rw (length-bytes n formed.most) formed.most;
        each = every-at name_byte (bytes_of n) formed.stand;
      })

-- ---- names are compared byte by byte

-- any two names: `same_name` decides whether they are equal as values
pub same-exactly : (a b : Name) → (same_name a b ≡ true) ↔ (a ≡ b)
unfolding same_name
same-exactly a b = (
  λ e.
      let outer = both (eqb a.first b.first && eqb a.second b.second) (eqb a.len b.len) e in
      let inner = both (eqb a.first b.first) (eqb a.second b.second) outer.0 in
      λ i.
      record {
        first = eqb-true a.first b.first inner.0 i;
        second = eqb-true a.second b.second inner.1 i;
        len = eqb-true a.len b.len outer.1 i;
      },
  λ e.
      simp (
        eq-eqb a.first b.first (ap (λ (n : Name). n.first) e),
        eq-eqb a.second b.second (ap (λ (n : Name). n.second) e),
        eq-eqb a.len b.len (ap (λ (n : Name). n.len) e),
      ),
)

-- two well-formed names: it decides whether their bytes are equal
pub byte-by-byte : (a b : Name) → is_name a ≡ true → is_name b ≡ true → (same_name a b ≡ true) ↔ (bytes_of a ≡ bytes_of b)
byte-by-byte a b oka okb = (
  λ e. ap bytes_of ((same-exactly a b).0 e),
  λ e. (same-exactly a b).1 (sym (named_back a oka) ∙ ap named e ∙ named_back b okb),
)

-- ---- what was read is written back

-- a text after bytes were put at a place: they stand there, and all others are as they were
pub record PutAt (bytes before : List ℕ) (at : ℕ) (after : List ℕ) : Type 0 where
  pub ahead : take at after ≡ take at before
  pub there : take (length bytes) (drop at after) ≡ bytes
  pub behind : drop (at + length bytes) after ≡ drop (at + length bytes) before

module _ (n : Name) (text : List ℕ) (at : ℕ) (ok : is_name n ≡ true) (room : at + n.len ≤ length text) where
  pub writes : writable n text at ≡ true
  unfolding writable
  writes = simp (ok, le-leb (at + n.len) (length text) room)

  pub puts : PutAt (bytes_of n) text at (written n text at)
  unfolding written
  puts =
      let front : List ℕ = take at text in
      let rest : List ℕ = drop (at + n.len) text in
      let long : length (bytes_of n) ≡ n.len = length-bytes n (formed n ok).most in
      let till : length front ≡ at = length-take-le at text (omega arith) in
      let seam = append_assoc front (bytes_of n) rest in
      rw writes
      (record {
        ahead = rw seam (take_at front (bytes_of n ++ rest) at till);
        there = rw (seam, drop_at front (bytes_of n ++ rest) at till) (take_at (bytes_of n) rest (length (bytes_of n)) refl);
        behind = rw long (drop_at (front ++ bytes_of n) rest (at + n.len) (simp (length-append, till, long)));
      })

module _ (bytes : List ℕ) (n : Name) (text : List ℕ) (at : ℕ) (e : naming_of bytes ≡ Some n) (room : at + length bytes ≤ length text) where
  pub answers_true : writable n text at ≡ true
  unfolding named
  answers_true =
      let r = read bytes n e in
      rw r.is (writes (named bytes) text at (is-named bytes r.ok) room)

  pub written_back : PutAt bytes text at (written n text at)
  unfolding named
  written_back =
      let r = read bytes n e in
      rw r.is (rw (bytes_back bytes r.ok) at (puts (named bytes) text at (is-named bytes r.ok) room))
