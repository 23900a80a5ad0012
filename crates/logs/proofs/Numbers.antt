-- Big-endian numbers: a number's bytes say the number, and the number that bytes say has those bytes.
use Prim.Native.Nat.{ℕ, zero, suc, ◌+◌, ◌*◌, ◌/◌, ◌%◌, ◌^◌, ◌≤◌, ◌<◌}
use mathlib.Core.Path.{◌≡◌, refl, ap, ◌∙◌}
use mathlib.Core.List.{List, [], ◌∷◌, ◌++◌, foldl, foldl-append}
use native.Mathlib.Nat.{lt_of_lt_of_le, pow-le-pow_right, pow-suc, div-add-mod', div-lt_iff_lt-mul, mod-lt, mul-le-mul_right}
use native.Mathlib.Numerals.{add-one}
use native.Mathlib.Omega.{arith}
use lib.Arith.{digits_div, digits_mod}
use lib.ListN.{length, take, drop, get_or, length-append, drop_of_length-le}
use lib.Seq.{drop-cons, take-suc}
use Rattle.logs.specs.Log.{big_endian, value_of}
use Rattle.logs.specs.Stored.{Bytes}
use Rattle.logs.proofs.Bytes.{bytes-none, bytes-append, bytes_one}

-- What fits few bytes fits more.
pub fewer_bytes : (few more : ℕ) {v : ℕ} → few ≤ more → v < 256 ^ few → v < 256 ^ more
fewer_bytes few more h small = lt_of_lt_of_le small (pow-le-pow_right {n = 256} (omega arith) h)

-- The number that bytes say behind those that said v.
abbrev pub value_from : ℕ → List ℕ → ℕ
value_from v l = foldl (λ v b. v * 256 + b) v l

value-last : (l : List ℕ) (b : ℕ) → value_of (l ++ (b ∷ [])) ≡ value_of l * 256 + b
value-last l b = foldl-append (λ v b. v * 256 + b) 0 l (b ∷ [])

-- Bytes say a number that fits them.
value-below : (v : ℕ) (l : List ℕ) → Bytes l → value_from v l < (v + 1) * 256 ^ length l
value-below v [] h = omega arith
value-below v (b ∷ l) h =
    let low : b < 256 = h 0 in
    let more : (v * 256 + b + 1) * 256 ^ length l ≤ (v + 1) * 256 * 256 ^ length l = mul-le-mul_right (256 ^ length l) (omega arith) in
    lt_of_lt_of_le (value-below (v * 256 + b) l (λ i. h (suc i))) (rw pow-suc (omega arith))

pub value-small : (l : List ℕ) → Bytes l → value_of l < 256 ^ length l
value-small l h = omega (arith, value-below 0 l h)

pub length-big_endian : (width n : ℕ) → length (big_endian width n) ≡ width
length-big_endian zero n = refl
length-big_endian (suc width) n =
    length-append (big_endian width (n / 256)) (n % 256 ∷ []) ∙ ap (λ k. k + 1) (length-big_endian width (n / 256)) ∙ add-one width

pub bytes-big_endian : (width n : ℕ) → Bytes (big_endian width n)
bytes-big_endian zero n = bytes-none
bytes-big_endian (suc width) n =
    bytes-append (big_endian width (n / 256)) (n % 256 ∷ []) (bytes-big_endian width (n / 256)) (bytes_one [] (mod-lt n (omega arith)) bytes-none)

pub value-big_endian : (width n : ℕ) → n < 256 ^ width → value_of (big_endian width n) ≡ n
value-big_endian zero n h = omega arith
value-big_endian (suc width) n h =
    let few : n < 256 ^ width * 256 = rw (← pow-suc 256 width) h in
    value-last (big_endian width (n / 256)) (n % 256)
    ∙ ap (λ v. v * 256 + n % 256) (value-big_endian width (n / 256) ((div-lt_iff_lt-mul {k = 256} (omega arith)).1 few))
    ∙ div-add-mod' n 256

pub big_endian-value : (width : ℕ) (l : List ℕ) → Bytes l → width ≤ length l → big_endian width (value_of (take width l)) ≡ take width l
big_endian-value zero l h k = refl
big_endian-value (suc width) l h k =
    let t = take width l in
    let b = get_or l width 0 in
    let v = value_of t in
    let low : b < 256 = h width in
    let one : take (suc width) l ≡ t ++ (b ∷ []) = take-suc l width 0 k in
    rw (one, value-last t b, digits_div v low, digits_mod v low)
    (ap (λ m. m ++ (b ∷ [])) (big_endian-value width l h (omega arith)))

-- The loop of `value`: what the bytes left say behind v is what all of them say.
pub record Valued (bytes : List ℕ) (v i : ℕ) : Type 0 where
  pub within : i ≤ length bytes
  pub small : v < 256 ^ i
  pub left : value_from v (drop i bytes) ≡ value_of bytes

pub room : {v i b : ℕ} → v < 256 ^ i → i < 8 → b < 256 → v * 256 + b < 2 ^ 64
room {v} {i} {b} small few low = let k : v < 256 ^ 7 = fewer_bytes i 7 (omega arith) small in omega arith

module _ {bytes : List ℕ} where
  pub valued-first : Valued bytes 0 0
  valued-first = record { within = omega arith; small = omega arith; left = refl }

  module _ {v i : ℕ} (r : Valued bytes v i) where
    pub valued-next : {b : ℕ} → i < length bytes → b ≡ get_or bytes i 0 → b < 256 → Valued bytes (v * 256 + b) (i + 1)
    valued-next {b} h e low =
        record {
          within = omega arith;
          small = rw (add-one, pow-suc 256 i) (omega (arith, r.small));
          left = rw (e, add-one i) (rw (drop-cons bytes i 0 h) at r.left);
        }

    pub valued-last : length bytes ≤ i → v ≡ value_of bytes
    valued-last h = rw (drop_of_length-le bytes h) at r.left

    pub valued-small : length bytes ≤ i → v < 256 ^ length bytes
    valued-small h = let e : i ≡ length bytes = omega (arith, r.within) in rw (← e) r.small
