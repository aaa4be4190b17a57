-- Fields and their readings: what is spelled is read, and what is read was spelled.
use Rattle.std.proofs.Common.{◌≡◌, ℕ, zero, suc, ◌^◌, ◌<◌, ◌≤◌, ℤ, pos, negsuc, Bool, true, false, cond, ltb, List, [], ◌∷◌, ◌++◌, length, get_or, take, drop, Option, Some, None, Result, Ok, Err, refl, sym, ap, subst, ◌∙◌, append_assoc, arith}
use Rattle.std.specs.Prelude.{FitsSigned, int_lt, ◌≤ℤ◌, not, T}
use Rattle.std.specs.Int.{Width, w16, w32, w64, byte_len, cast_signed, cast_unsigned}
use Rattle.std.specs.List.{AllByRecursion, flat_map}
use Rattle.std.specs.Ordering.{int_eq}
use Rattle.std.specs.Str.{is_utf8}
use Rattle.std.proofs.lemmas.Bool.{ltb-false, le-ltb}
use Rattle.std.proofs.lemmas.Bool.Decides.{Decides-int_eq}
use Rattle.std.proofs.lemmas.Cmp.{int_eq_equiv}
use Rattle.std.specs.Int.Signed.{clash_ℤ, lt_z_no}
use Rattle.std.proofs.lemmas.Int.{ints, to_z-of_z, of_z-to_z}
use Rattle.std.proofs.lemmas.List.{take_at, drop_at, take-append-drop, length-append, length-take}
use Rattle.std.proofs.lemmas.Nat.{be_bytes_2, be_bytes_4, be_bytes_8}
use Rattle.std.proofs.Math.Facts.{Fits-of_z, sfits_to_z}
use mir.Val.{bits}
use Rattle.byteorder.specs.Endian.{big_bytes, big_number}
use Rattle.byteorder.specs.Numbers.{big_from-take, big_number-reads_back, length-bytes_high_first}
use Rattle.pc_model.specs.declared.wire_fault.WireFault.{WireFault}
use Rattle.pc_model.specs.declared.wire_fault.WireFault.TheVariants.{Short, BadOffset, NotUtf8}
use Rattle.pc_model.specs.Messages.{int_spelling, string_spelling, nullable_spelling, array_spelling, IsString, IsNullable, IsArray, IsPosition}
use Rattle.pc_model.specs.MessageReading.{◌>>=◌, part_at, int_at, size_of, size_at, some_text, text_of, text_at, string_at, nullable_of, nullable_at, items_at, array_at, same_as, fixed_at, not_below, position_at}
use Rattle.pc_offset_wire.proofs.ItemLemmas.{bind_ok}
use Rattle.pc_offset_wire.proofs.WritingLemmas.{is_position}

-- ---- bytes

abbrev pub IsBytes : List ℕ → Type 0
IsBytes bytes = (i : ℕ) → get_or bytes i 0 < 256

-- the bytes after others are bytes
pub IsBytes-rest : (front rest : List ℕ) → IsBytes (front ++ rest) → IsBytes rest
IsBytes-rest [] rest h = h
IsBytes-rest (b ∷ front) rest h = IsBytes-rest front rest (λ i. h (suc i))

IsBytes-take : (n : ℕ) (bytes : List ℕ) → IsBytes bytes → IsBytes (take n bytes)
IsBytes-take zero bytes h i = omega arith
IsBytes-take (suc n) [] h i = omega arith
IsBytes-take (suc n) (b ∷ bytes) h zero = h 0
IsBytes-take (suc n) (b ∷ bytes) h (suc i) = IsBytes-take n bytes (λ k. h (suc k)) i

-- ---- formats

-- What is spelled in front of other bytes is read, and what is read was spelled there and fits.
pub record IsFormat {A : Type 0} (at : List ℕ → Result (A × List ℕ) WireFault) (spelled : A → List ℕ) (Holds : A → Type 0) : Type 0 where
  pub read : (x : A) (rest : List ℕ) → Holds x → at (spelled x ++ rest) ≡ Ok (x, rest)
  pub only : (bytes : List ℕ) (x : A) (rest : List ℕ) → IsBytes bytes → at bytes ≡ Ok (x, rest) → (bytes ≡ spelled x ++ rest) × Holds x

abbrev done : {A : Type 0} → A → Result A WireFault
done x = Ok x

pub ok_is : {A : Type 0} (x y : A) → done x ≡ done y → x ≡ y
ok_is x y e = cc

-- a test that did not fail
pub guard_ok : {A : Type 0} (b : Bool) (fault : WireFault) (x y : A) → cond b (Err fault) (done x) ≡ Ok y → (b ≡ false) × (x ≡ y)
guard_ok true fault x y e = absurd cc
guard_ok false fault x y e = (refl, ok_is x y e)

pub guard_not : {A : Type 0} (b : Bool) (fault : WireFault) (x y : A) → cond b (done x) (Err fault) ≡ Ok y → (b ≡ true) × (x ≡ y)
guard_not false fault x y e = absurd cc
guard_not true fault x y e = (refl, ok_is x y e)

-- ---- numbers

pub record IsWide (w : Width) : Type 0 where
  pub power : 256 ^ byte_len w ≡ 2 ^ bits w
  pub back : (front : List ℕ) → length front ≡ byte_len w → IsBytes front → big_bytes (byte_len w) (big_number (byte_len w) front) ≡ front
  pub below : (front : List ℕ) → IsBytes front → big_number (byte_len w) front < 2 ^ bits w

pub wide16 : IsWide w16
wide16 = record {
  power = refl;
  back = λ front len fits. be_bytes_2 front _ len fits (omega arith);
  below = λ front fits. omega (arith, fits 0, fits 1);
}

pub wide32 : IsWide w32
wide32 = record {
  power = refl;
  back = λ front len fits. be_bytes_4 front _ len fits (omega arith);
  below = λ front fits. omega (arith, fits 0, fits 1, fits 2, fits 3);
}

pub wide64 : IsWide w64
wide64 = record {
  power = refl;
  back = λ front len fits. be_bytes_8 front _ len fits (omega arith);
  below = λ front fits. omega (arith, fits 0, fits 1, fits 2, fits 3, fits 4, fits 5, fits 6, fits 7);
}

int-read : (w : Width) → IsWide w → (z : ℤ) (rest : List ℕ) → FitsSigned w z → int_at w (int_spelling w z ++ rest) ≡ Ok (z, rest)
int-read w wide z rest fits =
    let n = cast_unsigned w z in
    let len = length-bytes_high_first (byte_len w) n in
    let long : ltb (length (int_spelling w z ++ rest)) (byte_len w) ≡ false = le-ltb _ _ (omega (arith, length-append (int_spelling w z) rest)) in
    let small : n < 256 ^ byte_len w = subst (λ (m : ℕ). n < m) (sym wide.power) (Fits-of_z fits).fits in
    rw (long, big_number-reads_back (byte_len w) n rest small, to_z-of_z w z fits, drop_at (int_spelling w z) rest (byte_len w) len) refl

int-only : (w : Width) → IsWide w → (bytes : List ℕ) (z : ℤ) (rest : List ℕ) → IsBytes bytes → int_at w bytes ≡ Ok (z, rest) → (bytes ≡ int_spelling w z ++ rest) × FitsSigned w z
int-only w wide bytes z rest fits e =
    let k = byte_len w in
    let g = guard_ok (ltb (length bytes) k) Short (cast_signed w (big_number k bytes), drop k bytes) (z, rest) e in
    let long : k ≤ length bytes = ltb-false _ _ g.0 in
    let front = take k bytes in
    let front_fits = IsBytes-take k bytes fits in
    let front_len : length front ≡ k = omega (arith, length-take k bytes) in
    let n = big_number k front in
    let same : big_number k bytes ≡ n = sym (big_from-take 0 k k bytes (omega arith)) in
    let small = wide.below front front_fits in
    let spelled : int_spelling w (cast_signed w (big_number k bytes)) ≡ front = ap (λ (m : ℕ). int_spelling w (cast_signed w m)) same ∙ ap (big_bytes k) (of_z-to_z w n small) ∙ wide.back front front_len front_fits in
    let range : FitsSigned w (cast_signed w (big_number k bytes)) = subst (λ (m : ℕ). FitsSigned w (cast_signed w m)) (sym same) (sfits_to_z (record { fits = small })) in
    let whole : (bytes ≡ int_spelling w (cast_signed w (big_number k bytes)) ++ drop k bytes) × FitsSigned w (cast_signed w (big_number k bytes)) =
    (sym (take-append-drop k bytes) ∙ ap (λ (x : List ℕ). x ++ drop k bytes) (sym spelled), range) in
    subst (λ (y : ℤ × List ℕ). (bytes ≡ int_spelling w y.0 ++ y.1) × FitsSigned w y.0) g.1 whole

pub int-format : (w : Width) → IsWide w → IsFormat (int_at w) (int_spelling w) (FitsSigned w)
int-format w wide = record { read = int-read w wide; only = int-only w wide }

-- ---- lengths and counts

size_of-only : (z : ℤ × List ℕ) (n : ℕ) (rest : List ℕ) → size_of z ≡ Ok (n, rest) → z ≡ (pos n, rest)
size_of-only (pos m, after) n rest e = ap (λ (x : ℕ × List ℕ). (pos x.0, x.1)) (ok_is (m, after) (n, rest) e)
size_of-only (negsuc m, after) n rest e = absurd cc

size-read : (w : Width) → IsWide w → (n : ℕ) (rest : List ℕ) → FitsSigned w (pos n) → size_at w (int_spelling w (pos n) ++ rest) ≡ Ok (n, rest)
unfolding size_at
size-read w wide n rest fits = rw (int-read w wide (pos n) rest fits) refl

size-only : (w : Width) → IsWide w → (bytes : List ℕ) (n : ℕ) (rest : List ℕ) → IsBytes bytes → size_at w bytes ≡ Ok (n, rest) → (bytes ≡ int_spelling w (pos n) ++ rest) × FitsSigned w (pos n)
unfolding size_at
size-only w wide bytes n rest fits e =
    let a = bind_ok (int_at w bytes) size_of (n, rest) e in
    let z = size_of-only a.0 n rest a.2 in
    int-only w wide bytes (pos n) rest fits (a.1 ∙ ap (λ (x : ℤ × List ℕ). done x) z)

pub size-format : (w : Width) → IsWide w → IsFormat (size_at w) (λ n. int_spelling w (pos n)) (λ n. FitsSigned w (pos n))
size-format w wide = record { read = size-read w wide; only = size-only w wide }

short-fits : (n : ℕ) → n < 2 ^ 15 → FitsSigned w16 (pos n)
short-fits n lt = record { sfits = lt }

fits-short : (n : ℕ) → FitsSigned w16 (pos n) → n < 2 ^ 15
fits-short n fits = fits.sfits

few-fits : (n : ℕ) → n < 2 ^ 31 → FitsSigned w32 (pos n)
few-fits n lt = record { sfits = lt }

fits-few : (n : ℕ) → FitsSigned w32 (pos n) → n < 2 ^ 31
fits-few n fits = fits.sfits

-- ---- strings

text-read : (text rest : List ℕ) → is_utf8 text ≡ true → text_at (length text) (text ++ rest) ≡ Ok (text, rest)
unfolding text_at
text-read text rest utf8 =
    let long : ltb (length (text ++ rest)) (length text) ≡ false = le-ltb _ _ (omega (arith, length-append text rest)) in
    rw (long, take_at text rest (length text) refl, drop_at text rest (length text) refl, utf8) refl

text-only : (n : ℕ) (bytes text rest : List ℕ) → text_at n bytes ≡ Ok (text, rest) → (bytes ≡ text ++ rest) × (length text ≡ n) × (is_utf8 text ≡ true)
unfolding text_at
text-only n bytes text rest e =
    let a = bind_ok (part_at n bytes) text_of (text, rest) e in
    let g = guard_ok (ltb (length bytes) n) Short (take n bytes, drop n bytes) a.0 a.1 in
    let h = guard_not (is_utf8 a.0.0) NotUtf8 a.0 (text, rest) a.2 in
    let long : n ≤ length bytes = ltb-false _ _ g.0 in
    let utf8 : is_utf8 text ≡ true = ap (λ (x : List ℕ × List ℕ). is_utf8 x.0) (sym h.1) ∙ h.0 in
    let count : length (take n bytes) ≡ n = omega (arith, length-take n bytes) in
    let made : (bytes ≡ take n bytes ++ drop n bytes) × (length (take n bytes) ≡ n) = (sym (take-append-drop n bytes), count) in
    let moved = subst (λ (y : List ℕ × List ℕ). (bytes ≡ y.0 ++ y.1) × (length y.0 ≡ n)) (g.1 ∙ h.1) made in
    (moved.0, moved.1, utf8)

string-read : (text rest : List ℕ) → IsString text → string_at (string_spelling text ++ rest) ≡ Ok (text, rest)
unfolding string_at
string-read text rest is =
    rw (append_assoc (int_spelling w16 (pos (length text))) text rest, size-read w16 wide16 (length text) (text ++ rest) (short-fits (length text) is.short)) (text-read text rest is.utf8)

string-only : (bytes text rest : List ℕ) → IsBytes bytes → string_at bytes ≡ Ok (text, rest) → (bytes ≡ string_spelling text ++ rest) × IsString text
unfolding string_at
string-only bytes text rest fits e =
    let a = bind_ok (size_at w16 bytes) (λ n. text_at n.0 n.1) (text, rest) e in
    let head = size-only w16 wide16 bytes a.0.0 a.0.1 fits a.1 in
    let t = text-only a.0.0 a.0.1 text rest a.2 in
    let spelled : bytes ≡ int_spelling w16 (pos (length text)) ++ (text ++ rest) = head.0 ∙ ap (λ (x : List ℕ). int_spelling w16 (pos a.0.0) ++ x) t.0 ∙ ap (λ (n : ℕ). int_spelling w16 (pos n) ++ (text ++ rest)) (sym t.1) in
    let short : length text < 2 ^ 15 = rw t.1 (fits-short a.0.0 head.1) in
    (spelled ∙ sym (append_assoc (int_spelling w16 (pos (length text))) text rest), record { short = short; utf8 = t.2 })

pub string-format : IsFormat string_at string_spelling IsString
string-format = record { read = string-read; only = string-only }

-- ---- strings that may be null

nullable-read : (text : Option (List ℕ)) (rest : List ℕ) → IsNullable text → nullable_at (nullable_spelling text ++ rest) ≡ Ok (text, rest)
unfolding nullable_at nullable_of
nullable-read None rest is = rw (int-read w16 wide16 (negsuc 0) rest (record { sfits = omega arith })) refl
nullable-read (Some text) rest is =
    ap nullable_at (append_assoc (int_spelling w16 (pos (length text))) text rest)
    ∙ rw (int-read w16 wide16 (pos (length text)) (text ++ rest) (short-fits (length text) is.short), text-read text rest is.utf8) refl

nullable_of-only : (bytes : List ℕ) (z : ℤ × List ℕ) (text : Option (List ℕ)) (rest : List ℕ) → (bytes ≡ int_spelling w16 z.0 ++ z.1) × FitsSigned w16 z.0 → nullable_of z ≡ Ok (text, rest) → (bytes ≡ nullable_spelling text ++ rest) × IsNullable text
unfolding nullable_of
nullable_of-only bytes (pos n, after) text rest head e =
    let a = bind_ok (text_at n after) (λ x. done (some_text x)) (text, rest) e in
    let t = text-only n after a.0.0 a.0.1 a.1 in
    let spelled : bytes ≡ int_spelling w16 (pos (length a.0.0)) ++ (a.0.0 ++ a.0.1) = head.0 ∙ ap (λ (x : List ℕ). int_spelling w16 (pos n) ++ x) t.0 ∙ ap (λ (n : ℕ). int_spelling w16 (pos n) ++ (a.0.0 ++ a.0.1)) (sym t.1) in
    let short : length a.0.0 < 2 ^ 15 = rw t.1 (fits-short n head.1) in
    let made : (bytes ≡ nullable_spelling (Some a.0.0) ++ a.0.1) × IsNullable (Some a.0.0) = (spelled ∙ sym (append_assoc (int_spelling w16 (pos (length a.0.0))) a.0.0 a.0.1), record { short = short; utf8 = t.2 }) in
    subst (λ (y : Option (List ℕ) × List ℕ). (bytes ≡ nullable_spelling y.0 ++ y.1) × IsNullable y.0) (ok_is (Some a.0.0, a.0.1) (text, rest) a.2) made
nullable_of-only bytes (negsuc zero, after) text rest head e =
    subst (λ (y : Option (List ℕ) × List ℕ). (bytes ≡ nullable_spelling y.0 ++ y.1) × IsNullable y.0) (ok_is (None, after) (text, rest) e) (head.0, tt)
nullable_of-only bytes (negsuc (suc n), after) text rest head e = absurd cc

nullable-only : (bytes : List ℕ) (text : Option (List ℕ)) (rest : List ℕ) → IsBytes bytes → nullable_at bytes ≡ Ok (text, rest) → (bytes ≡ nullable_spelling text ++ rest) × IsNullable text
unfolding nullable_at
nullable-only bytes text rest fits e =
    let a = bind_ok (int_at w16 bytes) nullable_of (text, rest) e in
    nullable_of-only bytes a.0 text rest (int-only w16 wide16 bytes a.0.0 a.0.1 fits a.1) a.2

pub nullable-format : IsFormat nullable_at nullable_spelling IsNullable
nullable-format = record { read = nullable-read; only = nullable-only }

-- ---- arrays

module _ {A : Type 0} (at : List ℕ → Result (A × List ℕ) WireFault) (spelled : A → List ℕ) (IsItem : A → Type 0) (item : IsFormat at spelled IsItem) where
  items-read : (xs : List A) (rest : List ℕ) → AllByRecursion IsItem xs → items_at at (length xs) (flat_map spelled xs ++ rest) ≡ Ok (xs, rest)
  unfolding items_at
  items-read [] rest all = refl
  items-read (x ∷ xs) rest all =
      let regrouped : flat_map spelled (x ∷ xs) ++ rest ≡ spelled x ++ (flat_map spelled xs ++ rest) = append_assoc (spelled x) (flat_map spelled xs) rest in
      ap (items_at at (suc (length xs))) regrouped ∙ rw (item.read x (flat_map spelled xs ++ rest) all.0, items-read xs rest all.1) refl

  -- the items, their spelling, and their number
  abbrev Were : ℕ → List ℕ → List A × List ℕ → Type 0
  Were n bytes found = (bytes ≡ flat_map spelled found.0 ++ found.1) × AllByRecursion IsItem found.0 × (length found.0 ≡ n)

  items-only : (n : ℕ) (bytes : List ℕ) (found : List A × List ℕ) → IsBytes bytes → items_at at n bytes ≡ Ok found → Were n bytes found
  unfolding items_at
  items-only zero bytes found fits e = subst (Were 0 bytes) (ok_is ([], bytes) found e) (refl, tt, refl)
  items-only (suc n) bytes found fits e =
      let a = bind_ok (at bytes) (λ x. items_at at n x.1 >>= λ others. done (x.0 ∷ others.0, others.1)) found e in
      let b = bind_ok (items_at at n a.0.1) (λ others. done (a.0.0 ∷ others.0, others.1)) found a.2 in
      let first = item.only bytes a.0.0 a.0.1 fits a.1 in
      let rest_fits = IsBytes-rest (spelled a.0.0) a.0.1 (subst IsBytes first.0 fits) in
      let others = items-only n a.0.1 b.0 rest_fits b.1 in
      let text : bytes ≡ flat_map spelled (a.0.0 ∷ b.0.0) ++ b.0.1 = first.0 ∙ ap (λ (x : List ℕ). spelled a.0.0 ++ x) others.0 ∙ sym (append_assoc (spelled a.0.0) (flat_map spelled b.0.0) b.0.1) in
      let count : length (a.0.0 ∷ b.0.0) ≡ suc n = ap (λ (k : ℕ). suc k) others.2 in
      subst (Were (suc n) bytes) (ok_is (a.0.0 ∷ b.0.0, b.0.1) found b.2) (text, (first.1, others.1), count)

  array-read : (xs : List A) (rest : List ℕ) → IsArray IsItem xs → array_at at (array_spelling spelled xs ++ rest) ≡ Ok (xs, rest)
  unfolding array_at
  array-read xs rest is =
      ap (array_at at) (append_assoc (int_spelling w32 (pos (length xs))) (flat_map spelled xs) rest)
      ∙ rw (size-read w32 wide32 (length xs) (flat_map spelled xs ++ rest) (few-fits (length xs) is.few)) (items-read xs rest is.each)

  array-only : (bytes : List ℕ) (xs : List A) (rest : List ℕ) → IsBytes bytes → array_at at bytes ≡ Ok (xs, rest) → (bytes ≡ array_spelling spelled xs ++ rest) × IsArray IsItem xs
  unfolding array_at
  array-only bytes xs rest fits e =
      let a = bind_ok (size_at w32 bytes) (λ n. items_at at n.0 n.1) (xs, rest) e in
      let head = size-only w32 wide32 bytes a.0.0 a.0.1 fits a.1 in
      let rest_fits = IsBytes-rest (int_spelling w32 (pos a.0.0)) a.0.1 (subst IsBytes head.0 fits) in
      let items = items-only a.0.0 a.0.1 (xs, rest) rest_fits a.2 in
      let text : bytes ≡ int_spelling w32 (pos (length xs)) ++ (flat_map spelled xs ++ rest) = head.0 ∙ ap (λ (x : List ℕ). int_spelling w32 (pos a.0.0) ++ x) items.0 ∙ ap (λ (n : ℕ). int_spelling w32 (pos n) ++ (flat_map spelled xs ++ rest)) (sym items.2) in
      let few : length xs < 2 ^ 31 = rw items.2 (fits-few a.0.0 head.1) in
      (text ∙ sym (append_assoc (int_spelling w32 (pos (length xs))) (flat_map spelled xs) rest), record { few = few; each = items.1 })

  pub array-format : IsFormat (array_at at) (array_spelling spelled) (IsArray IsItem)
  array-format = record { read = array-read; only = array-only }

-- ---- positions

below-false : (a b : ℤ) → a ≤ℤ b → int_lt b a ≡ false
below-false a b le = tested (int_lt b a) refl
  where
    tested : (t : Bool) → int_lt b a ≡ t → t ≡ false
    tested true e = clash_ℤ (record { lt = subst T (sym e) tt }) le
    tested false e = refl

not-below : (a b : ℤ) → int_lt b a ≡ false → a ≤ℤ b
not-below a b e = lt_z_no (subst (λ (t : Bool). T (not t)) (sym e) tt)

same-true : (z : ℤ) → int_eq z z ≡ true
same-true z = int_eq_equiv.refl z

true-same : (a b : ℤ) → int_eq a b ≡ true → a ≡ b
true-same a b e = let d = Decides-int_eq a b in d.0 e

position-read : (least z : ℤ) (rest : List ℕ) → IsPosition least z → position_at least (int_spelling w64 z ++ rest) ≡ Ok (z, rest)
unfolding position_at
position-read least z rest is =
    let above : least ≤ℤ z = rw is.is (omega (arith, ints)) in
    rw (int-read w64 wide64 z rest is.fits, below-false least z above) refl

position-only : (least : ℤ) (bytes : List ℕ) (z : ℤ) (rest : List ℕ) → IsBytes bytes → position_at least bytes ≡ Ok (z, rest) → (bytes ≡ int_spelling w64 z ++ rest) × IsPosition least z
unfolding position_at
position-only least bytes z rest fits e =
    let a = bind_ok (int_at w64 bytes) (not_below least) (z, rest) e in
    let g = guard_ok (int_lt a.0.0 least) BadOffset a.0 (z, rest) a.2 in
    let head = int-only w64 wide64 bytes a.0.0 a.0.1 fits a.1 in
    let le = not-below least a.0.0 g.0 in
    let made : (bytes ≡ int_spelling w64 a.0.0 ++ a.0.1) × IsPosition least a.0.0 = (head.0, is_position least a.0.0 head.1 le) in
    subst (λ (y : ℤ × List ℕ). (bytes ≡ int_spelling w64 y.0 ++ y.1) × IsPosition least y.0) g.1 made

pub position-format : (least : ℤ) → IsFormat (position_at least) (int_spelling w64) (IsPosition least)
position-format least = record { read = position-read least; only = position-only least }

-- ---- numbers that have to stand somewhere

fixed-read : (wanted : ℤ) (fault : WireFault) (rest : List ℕ) → FitsSigned w16 wanted → fixed_at wanted fault (int_spelling w16 wanted ++ rest) ≡ Ok rest
unfolding fixed_at
fixed-read wanted fault rest fits = rw (int-read w16 wide16 wanted rest fits, same-true wanted) refl

fixed-only : (wanted : ℤ) (fault : WireFault) (bytes rest : List ℕ) → IsBytes bytes → fixed_at wanted fault bytes ≡ Ok rest → bytes ≡ int_spelling w16 wanted ++ rest
unfolding fixed_at
fixed-only wanted fault bytes rest fits e =
    let a = bind_ok (int_at w16 bytes) (same_as wanted fault) rest e in
    let g = guard_not (int_eq a.0.0 wanted) fault a.0.1 rest a.2 in
    let head = int-only w16 wide16 bytes a.0.0 a.0.1 fits a.1 in
    let same = true-same a.0.0 wanted g.0 in
    head.0 ∙ ap (λ (z : ℤ). int_spelling w16 z ++ a.0.1) same ∙ ap (λ (x : List ℕ). int_spelling w16 wanted ++ x) g.1

-- ---- fields, one behind the other

-- The rest of a record, some of whose fields were read before and have their values: what is spelled of
-- such a record is read, and what is read is such a record.
pub record IsRest {B : Type 0} (next : List ℕ → Result (B × List ℕ) WireFault) (spelled : B → List ℕ) (Holds Has : B → Type 0) : Type 0 where
  pub read : (b : B) (rest : List ℕ) → Has b → Holds b → next (spelled b ++ rest) ≡ Ok (b, rest)
  pub only : (bytes : List ℕ) (b : B) (rest : List ℕ) → IsBytes bytes → next bytes ≡ Ok (b, rest) → Has b × ((bytes ≡ spelled b ++ rest) × Holds b)

module _ {A B : Type 0} {at : List ℕ → Result (A × List ℕ) WireFault} {spelled_first : A → List ℕ} {Holds_first : A → Type 0} (format : IsFormat at spelled_first Holds_first) (get : B → A) where
  -- one more field, and the rest with its value
  module _ (next : A → List ℕ → Result (B × List ℕ) WireFault) (spelled : B → List ℕ) (Holds Has : B → Type 0) (rest_is : (x : A) → IsRest (next x) spelled Holds (λ b. Has b × (get b ≡ x))) where
    abbrev whole_at : List ℕ → Result (B × List ℕ) WireFault
    whole_at bytes = at bytes >>= λ x. next x.0 x.1

    field-read : (b : B) (rest : List ℕ) → Has b → Holds_first (get b) × Holds b → whole_at ((spelled_first (get b) ++ spelled b) ++ rest) ≡ Ok (b, rest)
    field-read b rest has holds =
        ap whole_at (append_assoc (spelled_first (get b)) (spelled b) rest)
        ∙ ap (λ (r : Result (A × List ℕ) WireFault). r >>= λ x. next x.0 x.1) (format.read (get b) (spelled b ++ rest) holds.0)
        ∙ (rest_is (get b)).read b rest (has, refl) holds.1

    field-only : (bytes : List ℕ) (b : B) (rest : List ℕ) → IsBytes bytes → whole_at bytes ≡ Ok (b, rest) → Has b × ((bytes ≡ (spelled_first (get b) ++ spelled b) ++ rest) × (Holds_first (get b) × Holds b))
    field-only bytes b rest fits e =
        let a = bind_ok (at bytes) (λ x. next x.0 x.1) (b, rest) e in
        let first = format.only bytes a.0.0 a.0.1 fits a.1 in
        let rest_fits = IsBytes-rest (spelled_first a.0.0) a.0.1 (subst IsBytes first.0 fits) in
        let more = (rest_is a.0.0).only a.0.1 b rest rest_fits a.2 in
        let same = more.0.1 in
        let text : bytes ≡ spelled_first (get b) ++ (spelled b ++ rest) = first.0 ∙ ap (λ (t : List ℕ). spelled_first a.0.0 ++ t) more.1.0 ∙ ap (λ (x : A). spelled_first x ++ (spelled b ++ rest)) (sym same) in
        (more.0.0, (text ∙ sym (append_assoc (spelled_first (get b)) (spelled b) rest), (subst Holds_first (sym same) first.1, more.1.1)))

    pub field : IsRest (λ bytes. at bytes >>= λ x. next x.0 x.1) (λ b. spelled_first (get b) ++ spelled b) (λ b. Holds_first (get b) × Holds b) Has
    field = record { read = field-read; only = field-only }

  -- the last field
  module _ (make : A → B) (Has : B → Type 0) (has : (x : A) → Has (make x) × (get (make x) ≡ x)) (back : (b : B) → Has b → make (get b) ≡ b) where
    abbrev last_at : List ℕ → Result (B × List ℕ) WireFault
    last_at bytes = at bytes >>= λ x. done (make x.0, x.1)

    last-read : (b : B) (rest : List ℕ) → Has b → Holds_first (get b) → last_at (spelled_first (get b) ++ rest) ≡ Ok (b, rest)
    last-read b rest has_b holds =
        ap (λ (r : Result (A × List ℕ) WireFault). r >>= λ x. done (make x.0, x.1)) (format.read (get b) rest holds)
        ∙ ap (λ (c : B). done (c, rest)) (back b has_b)

    last-only : (bytes : List ℕ) (b : B) (rest : List ℕ) → IsBytes bytes → last_at bytes ≡ Ok (b, rest) → Has b × ((bytes ≡ spelled_first (get b) ++ rest) × Holds_first (get b))
    last-only bytes b rest fits e =
        let a = bind_ok (at bytes) (λ x. done (make x.0, x.1)) (b, rest) e in
        let first = format.only bytes a.0.0 a.0.1 fits a.1 in
        let h = has a.0.0 in
        let made : Has (make a.0.0) × ((bytes ≡ spelled_first (get (make a.0.0)) ++ a.0.1) × Holds_first (get (make a.0.0))) =
        (h.0, (first.0 ∙ ap (λ (x : A). spelled_first x ++ a.0.1) (sym h.1), subst Holds_first (sym h.1) first.1)) in
        subst (λ (y : B × List ℕ). Has y.0 × ((bytes ≡ spelled_first (get y.0) ++ y.1) × Holds_first (get y.0))) (ok_is (make a.0.0, a.0.1) (b, rest) a.2) made

    pub last : IsRest (λ bytes. at bytes >>= λ x. done (make x.0, x.1)) (λ b. spelled_first (get b)) (λ b. Holds_first (get b)) Has
    last = record { read = last-read; only = last-only }

-- a number that has to stand there, and the rest
module _ {B : Type 0} (wanted : ℤ) (fault : WireFault) (wanted_fits : FitsSigned w16 wanted) (next : List ℕ → Result (B × List ℕ) WireFault) (spelled : B → List ℕ) (Holds Has : B → Type 0) (rest_is : IsRest next spelled Holds Has) where
  abbrev behind_at : List ℕ → Result (B × List ℕ) WireFault
  behind_at bytes = fixed_at wanted fault bytes >>= next

  fixed-field-read : (b : B) (rest : List ℕ) → Has b → Holds b → behind_at ((int_spelling w16 wanted ++ spelled b) ++ rest) ≡ Ok (b, rest)
  fixed-field-read b rest has holds =
      ap behind_at (append_assoc (int_spelling w16 wanted) (spelled b) rest)
      ∙ ap (λ (r : Result (List ℕ) WireFault). r >>= next) (fixed-read wanted fault (spelled b ++ rest) wanted_fits)
      ∙ rest_is.read b rest has holds

  fixed-field-only : (bytes : List ℕ) (b : B) (rest : List ℕ) → IsBytes bytes → behind_at bytes ≡ Ok (b, rest) → Has b × ((bytes ≡ (int_spelling w16 wanted ++ spelled b) ++ rest) × Holds b)
  fixed-field-only bytes b rest fits e =
      let a = bind_ok (fixed_at wanted fault bytes) next (b, rest) e in
      let first = fixed-only wanted fault bytes a.0 fits a.1 in
      let rest_fits = IsBytes-rest (int_spelling w16 wanted) a.0 (subst IsBytes first fits) in
      let more = rest_is.only a.0 b rest rest_fits a.2 in
      let text : bytes ≡ int_spelling w16 wanted ++ (spelled b ++ rest) = first ∙ ap (λ (t : List ℕ). int_spelling w16 wanted ++ t) more.1.0 in
      (more.0, (text ∙ sym (append_assoc (int_spelling w16 wanted) (spelled b) rest), more.1.1))

  pub fixed-field : IsRest (λ bytes. fixed_at wanted fault bytes >>= next) (λ b. int_spelling w16 wanted ++ spelled b) Holds Has
  fixed-field = record { read = fixed-field-read; only = fixed-field-only }

-- all fields of a record
pub format_of : {B : Type 0} (at : List ℕ → Result (B × List ℕ) WireFault) (spelled : B → List ℕ) (Holds Whole : B → Type 0) → IsRest at spelled Holds (λ _. Unit {0}) → ((b : B) → Whole b → Holds b) → ((b : B) → Holds b → Whole b) → IsFormat at spelled Whole
format_of at spelled Holds Whole is to from = record {
  read = λ b rest whole. is.read b rest tt (to b whole);
  only = λ bytes b rest fits e. let o = is.only bytes b rest fits e in (o.1.0, from b o.1.1);
}
