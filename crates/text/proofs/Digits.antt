-- Numbers in decimal: what is printed reads back by the grammar's own `int`, and nothing else does.
use mathlib.Core.Path.{◌≡◌, refl, sym, ap, ap₂, ◌∙◌, subst}
use mathlib.Core.List.{List, [], ◌∷◌, ◌++◌, append_assoc, append-nil}
use Prim.Native.Nat.{ℕ, zero, suc, ◌+◌, ◌*◌, ◌-◌, ◌/◌, ◌%◌, ◌^◌, ◌≤◌, ◌<◌}
use native.Mathlib.Nat.{div-lt_iff_lt-mul, pow-suc}
use native.Mathlib.Omega.{arith}
use native.Mathlib.Decide.{dec_le}
use lib.Dec.{lit<}
use lib.ListN.{length, length-append}
use lib.Seq.{append_snoc}
use borrow.Author.Tests.{lt-ltb, le-ltb}
use Rattle.text.specs.declared.reader.Mode.TheVariants.{Start}
use Rattle.text.specs.Grammar.{digit_is, ◌then◌, both, left, right, Many, none, next, Digit1To9, DIGIT, Int, decimal, Number, number_is, ValueSeparator, Text, that, with}
use Rattle.text.specs.Line.{ascii, last_digits, digits, Writes}
use Rattle.text.specs.Machine.{contents, holds}
use Rattle.text.proofs.Complete.{complete}

-- a number of one digit, and one of more
module _ (k x : ℕ) where
  last_one : x < 10 → last_digits (suc k) x ≡ (0x30 + x) ∷ []
  unfolding last_digits
  last_one h = rw (lt-ltb x 10 h, last_digits)

  last_more : 10 ≤ x → last_digits (suc k) x ≡ last_digits k (x / 10) ++ ((0x30 + x % 10) ∷ [])
  unfolding last_digits
  last_more h = rw (le-ltb x 10 h, last_digits)

-- any bound that is enough gives the same digits
enough : (j k x : ℕ) → x < j → x < k → last_digits j x ≡ last_digits k x
enough zero k x h l = absurd (omega arith)
enough (suc j) zero x h l = absurd (omega arith)
enough (suc j) (suc k) x h l = go (dec_le 10 x) (enough j k (x / 10))
  where
    go : Dec (10 ≤ x) → (x / 10 < j → x / 10 < k → last_digits j (x / 10) ≡ last_digits k (x / 10)) → last_digits (suc j) x ≡ last_digits (suc k) x
    go (no s) more = last_one j x (omega arith) ∙ sym (last_one k x (omega arith))
    go (yes s) more = last_more j x s ∙ rw (more (omega arith) (omega arith)) (sym (last_more k x s))

pub digits_one : (x : ℕ) → x < 10 → digits x ≡ (0x30 + x) ∷ []
unfolding digits
digits_one x h = last_one x x h

pub digits_more : (x : ℕ) → 10 ≤ x → digits x ≡ digits (x / 10) ++ ((0x30 + x % 10) ∷ [])
unfolding digits
digits_more x h = last_more x x h ∙ rw (enough x (suc (x / 10)) (x / 10) (omega arith) (omega arith))

pub digits_longer : (x : ℕ) → 10 ≤ x → length (digits x) ≡ length (digits (x / 10)) + 1
digits_longer x h = ap length (digits_more x h) ∙ length-append (digits (x / 10)) ((0x30 + x % 10) ∷ [])

-- a number below 10^k has at most k digits
pub width : (k x : ℕ) → x < 10 ^ suc k → length (digits x) ≤ suc k
width zero x h = omega (arith, ap length (digits_one x h))
width (suc k) x h = go (dec_le 10 x) (width k (x / 10))
  where
    go : Dec (10 ≤ x) → (x / 10 < 10 ^ suc k → length (digits (x / 10)) ≤ suc k) → length (digits x) ≤ suc (suc k)
    go (no s) more = omega (arith, ap length (digits_one x (omega arith)))
    go (yes s) more = omega (arith, digits_longer x s, more ((div-lt_iff_lt-mul (lit< tt)).1 (rw pow-suc at h)))

-- ---- what is printed fits `int`, and has the number's value

-- one digit more
many_snoc : {s t us vs : List ℕ} → Many DIGIT s us → DIGIT t vs → Many DIGIT (s ++ t) (us ++ vs)
many_snoc {s} {t} {us} {vs} none d = rw (← append-nil t, ← append-nil vs) (next d none)
many_snoc (next p q) d = rw (append_assoc, append_assoc) (next p (many_snoc q d))

long_snoc : {s us : List ℕ} (c : ℕ) → 0x30 ≤ c → c ≤ 0x39 → (Digit1To9 then Many DIGIT) s us → (Digit1To9 then Many DIGIT) (s ++ (c ∷ [])) (us ++ ((c - 0x30) ∷ []))
long_snoc c lo hi (both p q) = rw (append_assoc, append_assoc) (both p (many_snoc q (digit_is lo hi)))

decimal_append : (n : ℕ) (ds es : List ℕ) → decimal n (ds ++ es) ≡ decimal (decimal n ds) es
decimal_append n [] es = refl
decimal_append n (d ∷ ds) es = decimal_append (n * 10 + d) ds es

-- a number that is not 0 begins with a digit from 1 to 9
record Long (x : ℕ) : Type 0 where
  values : List ℕ
  fits : (Digit1To9 then Many DIGIT) (digits x) values
  value : decimal 0 values ≡ x

long : (k x : ℕ) → x < k → 0 < x → Long x
long zero x h l = absurd (omega arith)
long (suc k) x h l = go (dec_le 10 x) (long k (x / 10))
  where
    go : Dec (10 ≤ x) → (x / 10 < k → 0 < x / 10 → Long (x / 10)) → Long x
    go (no s) more = record {
      values = (0x30 + x - 0x30) ∷ [];
      fits = rw (digits_one x (omega arith)) (both (digit_is {c = 0x30 + x} (omega arith) (omega arith)) none);
      value = omega arith;
    }
    go (yes s) more =
        let ih = more (omega arith) (omega arith) in
        record {
          values = ih.values ++ ((0x30 + x % 10 - 0x30) ∷ []);
          fits = rw (digits_more x s) (long_snoc (0x30 + x % 10) (omega arith) (omega arith) ih.fits);
          value = decimal_append 0 ih.values _ ∙ rw ih.value (omega arith);
        }

pub writes : (x : ℕ) → Writes (digits x) x
writes zero = record { values = 0 ∷ []; fits = rw (digits_one 0 (omega arith)) (left (digit_is {c = 0x30} (omega arith) (omega arith))); value = refl }
writes (suc x) = let l = long (suc (suc x)) (suc x) (omega arith) (omega arith) in record { values = l.values; fits = right l.fits; value = l.value }

-- ---- nothing else does

first_digit : (c : ℕ) → 0x30 ≤ c → c ≤ 0x39 → c ∷ [] ≡ digits (0 * 10 + (c - 0x30))
first_digit c lo hi = let e : 0x30 + (0 * 10 + (c - 0x30)) ≡ c = omega arith in sym (digits_one (0 * 10 + (c - 0x30)) (omega arith) ∙ ap (λ (k : ℕ). k ∷ []) e)

next_digit : (v c : ℕ) → 0 < v → 0x30 ≤ c → c ≤ 0x39 → digits v ++ (c ∷ []) ≡ digits (v * 10 + (c - 0x30))
next_digit v c h lo hi =
    let e : (v * 10 + (c - 0x30)) / 10 ≡ v = omega arith in
    let f : 0x30 + (v * 10 + (c - 0x30)) % 10 ≡ c = omega arith in
    sym (digits_more (v * 10 + (c - 0x30)) (omega arith) ∙ ap₂ (λ (n k : ℕ). digits n ++ (k ∷ [])) e f)

spelled : (v : ℕ) {s ds : List ℕ} → 0 < v → Many DIGIT s ds → digits v ++ s ≡ digits (decimal v ds)
spelled v h none = append-nil (digits v)
spelled v h (next {t = s} (digit_is {c} lo hi) q) =
    sym (append_snoc (digits v) c s) ∙ ap (λ (l : List ℕ). l ++ s) (next_digit v c h lo hi) ∙ spelled (v * 10 + (c - 0x30)) (omega arith) q

pub int_digits : {s ds : List ℕ} → Int s ds → s ≡ digits (decimal 0 ds)
int_digits (left (digit_is {c} lo hi)) = first_digit c lo (omega arith)
int_digits (right (both {t = s} (digit_is {c} lo hi) q)) = ap (λ (l : List ℕ). l ++ s) (first_digit c (omega arith) hi) ∙ spelled (0 * 10 + (c - 0x30)) (omega arith) q

pub writes_only : (s : List ℕ) (x : ℕ) → Writes s x → s ≡ digits x
writes_only s x w = int_digits w.fits ∙ ap digits w.value

-- ---- printed between brackets, a number of 64 bits is read back

pub read_back : (x : ℕ) → x < 2 ^ 64 → contents (ascii "[" ++ digits x ++ ascii "]") Start ≡ holds (x ∷ [])
read_back x h = complete _ _ text
  where
    one : Number (digits x) (x ∷ [])
    one = let w = writes x in subst (λ (n : ℕ). Number (digits x) (n ∷ [])) w.value (number_is w.fits (omega (arith, w.value)))

    items : (Number then Many (ValueSeparator then Number)) (digits x) (x ∷ [])
    items = rw (← append-nil (digits x)) (both one none)

    text : Text (ascii "[" ++ digits x ++ ascii "]") (x ∷ [])
    text = rw (← append-nil (digits x ++ (0x5D ∷ []))) (both none (both (both (both none (both that none)) (both (with items) (both none (both that none)))) none))
