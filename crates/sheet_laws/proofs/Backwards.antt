-- One line that was taken, backwards: what the line is, and what it added. The one idea: each test of `step` that let the line pass is
-- true. Assumes nothing.
use Rattle.std.specs.Prelude.{Option, Some, None}
use Prim.Native.Nat.{ℕ, ◌+◌, ◌-◌, ◌^◌, ◌≤◌, ◌<◌}
use mathlib.Core.Path.{◌≡◌, refl, sym}
use mathlib.Core.Bool.{Bool, true, false, ◌&&◌, cond}
use mathlib.Core.List.{List, [], ◌∷◌, ◌++◌}
use native.Mathlib.Omega.{arith}
use borrow.Author.Tests.{leb-true, eqb-true}
use lib.Dec.{leb, eqb}
use lib.Ieee.{binary64, of_bits}
use lib.Ieee.Scale.{finite}
use lib.ListN.{length}
use Rattle.hexadecimal.specs.Hex.{all_digits, number, digits}
use Rattle.naming.specs.Name.{naming_of, is_name, bytes_of, is_in}
use Rattle.naming.specs.declared.Name.{Name}
use Rattle.quant.specs.declared.refusal.Refusal.{Refusal}
use Rattle.quant.specs.declared.refusal.Refusal.TheVariants.{Malformed, Layout, DoubledName, NoColumn}
use Rattle.naming.proofs.Named.{read, bytes_back, is-named}
use Rattle.exact.proofs.Truth.{both}
use Rattle.sheet.specs.Sheet.{channels_key, column_key, row_key, factor_key, Behind, value, other, behind, SoFar, Step, goes, stops, count_step, column_named, column_step, row_named, row_step, factor_bits, factor_step}
use Rattle.sheet_laws.proofs.Spelled.{number_small, digits-back}
use Rattle.sheet_laws.proofs.Steps.{known}

pub not-stops : {r : Refusal} {t : SoFar} → stops r ≡ goes t → ⊥
not-stops e = let z : ◌≡◌ {A = ℕ} 0 1 = cc in omega arith

pub goes_to : {s t : SoFar} → goes s ≡ goes t → t ≡ s
goes_to e = cc

-- a test that let a line pass
passed : (b : Bool) (t u : SoFar) (r : Refusal) → cond b (goes t) (stops r) ≡ goes u → (b ≡ true) × (u ≡ t)
passed true t u r e = (refl, goes_to e)
passed false t u r e = absurd (not-stops e)

-- a test that would have refused it
escaped : (b : Bool) (x : Step) (u : SoFar) (r : Refusal) → cond b (stops r) x ≡ goes u → (b ≡ false) × (x ≡ goes u)
escaped true x u r e = absurd (not-stops e)
escaped false x u r e = (refl, e)

-- ---- a line behind its key

pub behind-is : (key line x : List ℕ) → behind key line ≡ value x → line ≡ key ++ x
unfolding behind
behind-is [] line x e = cc
behind-is (k ∷ ks) [] x e = absurd (let z : ◌≡◌ {A = ℕ} 0 1 = cc in omega arith)
behind-is (k ∷ ks) (b ∷ line) x e = by (behind-is ks line x) (eqb k b) refl e
  where
    by : (behind ks line ≡ value x → line ≡ ks ++ x) → (t : Bool) → eqb k b ≡ t → cond t (behind ks line) other ≡ value x → b ∷ line ≡ k ∷ (ks ++ x)
    by rest true same e = let heads = eqb-true k b same in let tails = rest e in cc
    by rest false same e = absurd (let z : ◌≡◌ {A = ℕ} 0 1 = cc in omega arith)

-- bytes that are a name are the name's bytes
pub record Spelled (bytes : List ℕ) (n : Name) : Type 0 where
  pub ok : is_name n ≡ true
  pub bytes-are : bytes ≡ bytes_of n

pub spelled : (bytes : List ℕ) (n : Name) → naming_of bytes ≡ Some n → Spelled bytes n
spelled bytes n e =
    let r = read bytes n e in
    record { ok = rw r.is (is-named bytes r.ok); bytes-are = rw r.is (sym (bytes_back bytes r.ok)) }

-- ---- the count

pub record CountLine (line : List ℕ) (t : SoFar) : Type 0 where
  pub count : ℕ
  pub some : 1 ≤ count
  pub most : count ≤ 8
  pub line-is : line ≡ channels_key ++ (48 + count) ∷ []
  pub now-known : t ≡ known count [] [] []

pub count-line : (line : List ℕ) (t : SoFar) → count_step (behind channels_key line) ≡ goes t → CountLine line t
unfolding count_step
count-line line t e = by (behind channels_key line) refl e
  where
    by : (v : Behind) → behind channels_key line ≡ v → count_step v ≡ goes t → CountLine line t
    by other _ e = absurd (not-stops e)
    by (value []) _ e = absurd (not-stops e)
    by (value (d ∷ [])) is e =
        let p = passed (leb 49 d && leb d 56) (known (d - 48) [] [] []) t Layout e in
        let range = both (leb 49 d) (leb d 56) p.0 in
        let low = leb-true 49 d range.0 in
        let high = leb-true d 56 range.1 in
        let back : 48 + (d - 48) ≡ d = omega arith in
        record {
          count = d - 48;
          some = omega arith;
          most = omega arith;
          line-is = rw back (behind-is channels_key line (d ∷ []) is);
          now-known = p.1;
        }
    by (value (d ∷ (f ∷ fs))) _ e = absurd (not-stops e)

-- ---- a column, a row, a factor

pub record ColumnLine (s : SoFar) (line : List ℕ) (t : SoFar) : Type 0 where
  pub name : Name
  pub ok : is_name name ≡ true
  pub single : is_in name s.columns ≡ false
  pub line-is : line ≡ column_key ++ bytes_of name
  pub now-known : t ≡ known s.count (s.columns ++ name ∷ []) s.rows s.factors

pub column-line : (s : SoFar) (line : List ℕ) (t : SoFar) → column_step s (behind column_key line) ≡ goes t → ColumnLine s line t
unfolding column_step column_named
column-line s line t e = by (behind column_key line) refl e
  where
    named : (bytes : List ℕ) → line ≡ column_key ++ bytes → (m : Option Name) → naming_of bytes ≡ m → column_named s m ≡ goes t → ColumnLine s line t
    named bytes is None _ e = absurd (not-stops e)
    named bytes is (Some n) naming e =
        let p = escaped (is_in n s.columns) (goes (known s.count (s.columns ++ n ∷ []) s.rows s.factors)) t DoubledName e in
        let sp = spelled bytes n naming in
        record { name = n; ok = sp.ok; single = p.0; line-is = rw sp.bytes-are at is; now-known = goes_to p.1 }

    by : (v : Behind) → behind column_key line ≡ v → column_step s v ≡ goes t → ColumnLine s line t
    by other _ e = absurd (not-stops e)
    by (value bytes) is e = named bytes (behind-is column_key line bytes is) (naming_of bytes) refl e

pub record RowLine (s : SoFar) (line : List ℕ) (t : SoFar) : Type 0 where
  pub name : Name
  pub ok : is_name name ≡ true
  pub single : is_in name s.rows ≡ false
  pub column : is_in name s.columns ≡ true
  pub line-is : line ≡ row_key ++ bytes_of name
  pub now-known : t ≡ known s.count s.columns (s.rows ++ name ∷ []) s.factors

pub row_line : (s : SoFar) (line : List ℕ) (t : SoFar) → row_step s (behind row_key line) ≡ goes t → RowLine s line t
unfolding row_step row_named
row_line s line t e = by (behind row_key line) refl e
  where
    named : (bytes : List ℕ) → line ≡ row_key ++ bytes → (m : Option Name) → naming_of bytes ≡ m → row_named s m ≡ goes t → RowLine s line t
    named bytes is None _ e = absurd (not-stops e)
    named bytes is (Some n) naming e =
        let p = escaped (is_in n s.rows) _ t DoubledName e in
        let q = passed (is_in n s.columns) (known s.count s.columns (s.rows ++ n ∷ []) s.factors) t NoColumn p.1 in
        let sp = spelled bytes n naming in
        record { name = n; ok = sp.ok; single = p.0; column = q.0; line-is = rw sp.bytes-are at is; now-known = q.1 }

    by : (v : Behind) → behind row_key line ≡ v → row_step s v ≡ goes t → RowLine s line t
    by other _ e = absurd (not-stops e)
    by (value bytes) is e = named bytes (behind-is row_key line bytes is) (naming_of bytes) refl e

pub record FactorLine (s : SoFar) (line : List ℕ) (t : SoFar) : Type 0 where
  pub bits : ℕ
  pub small : bits < 2 ^ 64
  pub fine : finite (of_bits binary64 bits) ≡ true
  pub line-is : line ≡ factor_key ++ digits 16 bits
  pub now-known : t ≡ known s.count s.columns s.rows (s.factors ++ bits ∷ [])

pub factor-line : (s : SoFar) (line : List ℕ) (t : SoFar) → factor_step s (behind factor_key line) ≡ goes t → FactorLine s line t
unfolding factor_step factor_bits
factor-line s line t e = by (behind factor_key line) refl e
  where
    digit : (text : List ℕ) → line ≡ factor_key ++ text → (b : Bool) → (eqb (length text) 16 && all_digits text) ≡ b → cond b (factor_bits s (number text)) (stops Layout) ≡ goes t
        → FactorLine s line t
    digit text is false _ e = absurd (not-stops e)
    digit text is true tests e =
        let parts = both (eqb (length text) 16) (all_digits text) tests in
        let long = eqb-true (length text) 16 parts.0 in
        let p = passed (finite (of_bits binary64 (number text))) (known s.count s.columns s.rows (s.factors ++ number text ∷ [])) t Malformed e in
        record {
          bits = number text;
          small = number_small text long parts.1;
          fine = p.0;
          line-is = rw (digits-back text long parts.1) is;
          now-known = p.1;
        }

    by : (v : Behind) → behind factor_key line ≡ v → factor_step s v ≡ goes t → FactorLine s line t
    by other _ e = absurd (not-stops e)
    by (value text) is e = digit text (behind-is factor_key line text is) (eqb (length text) 16 && all_digits text) refl e
