-- What is read is a spelling, and what is a spelling is read; the shortest spelling is one.
use Rattle.std.proofs.Common.{◌≡◌, ℕ, zero, suc, ◌+◌, ◌*◌, ◌/◌, ◌%◌, ◌^◌, ◌<◌, ◌≤◌, Bool, true, false, cond, eqb, ltb, leb, List, [], ◌∷◌, ◌++◌, length, take, drop, Result, Ok, Err, refl, sym, ap, subst, ◌∙◌, inl, inr, add-one, arith}
use Rattle.std.specs.Prelude.{ℤ, pos, IfOk, IfErr}
use Rattle.std.proofs.Common.{negsuc}
use Rattle.std.specs.List.{prefix_len}
use Rattle.std.proofs.Math.Nat.{pow-succ'}
use Rattle.std.proofs.lemmas.Bool.{cases_lt, ltb-true, le-ltb, lt-ltb, eqb-true}
use Rattle.std.proofs.lemmas.List.{take-append-drop, take_at, drop_at, length-append, length-take}
use Rattle.std.proofs.lemmas.Int.{ints}
use mir.Val.{SFits}
use mir.Syntax.{w32, w64}
use Rattle.pc_bytes.specs.Fields.{Gap, Needs, TooLong, ◌>>=◌, gap_of, IsFaultAt}
use Rattle.pc_bytes.specs.declared.fault.ByteFault.{ByteFault}
use Rattle.pc_bytes.specs.Varint.{zigzag_of, signed_of, unsigned_of, is_open, IsGroups, IsSpelling, IsVarint, IsVarlong, SpelledBefore, unsigned_at, varint_at, varlong_at, groups_of, shortest_of}
use Rattle.pc_bytes.proofs.VarintLemmas.{unsigned_of-lt}

-- zigzag and back
signed_of-zigzag_of : (z : ℤ) → signed_of (zigzag_of z) ≡ z
signed_of-zigzag_of (pos n) =
    let even : 2 * n % 2 ≡ 0 = omega arith in
    let half : 2 * n / 2 ≡ n = omega arith in
    rw (even, half) refl
signed_of-zigzag_of (negsuc n) =
    let odd : (2 * n + 1) % 2 ≡ 1 = omega arith in
    let half : (2 * n + 1) / 2 ≡ n = omega arith in
    rw (odd, half) refl

zigzag_of-signed_of : (u : ℕ) → zigzag_of (signed_of u) ≡ u
zigzag_of-signed_of u = by_parity u (eqb (u % 2) 0) refl
  where
    by_parity : (u : ℕ) (b : Bool) → eqb (u % 2) 0 ≡ b → zigzag_of (cond b (pos (u / 2)) (negsuc (u / 2))) ≡ u
    by_parity u true e = let even = eqb-true _ _ e in omega arith
    by_parity u false e = let odd : u % 2 ≡ 1 = grind (arith, e) in omega arith

-- one group more in front
IsGroups-cons : (b : ℕ) (bytes : List ℕ) → 128 ≤ b → IsGroups bytes → IsGroups (b ∷ bytes)
IsGroups-cons b [] h g = absurd g
IsGroups-cons b (c ∷ bytes) h g = (h, g)

-- the groups of a number are groups
IsGroups-groups_of : (more u : ℕ) → u < 128 ^ suc more → IsGroups (groups_of more u)
unfolding groups_of
IsGroups-groups_of zero u h = omega arith
IsGroups-groups_of (suc more) u h =
    elim (cases_lt u 128) [
      | inl lt ↦ rw (lt-ltb u 128 lt) lt
      | inr le ↦ rw (le-ltb u 128 le) (IsGroups-cons (128 + u % 128) (groups_of more (u / 128)) (omega arith) (IsGroups-groups_of more (u / 128) (let e = pow-succ' 128 (suc more) in omega arith)))
    ]

pub length-groups_of-le : (more u : ℕ) → length (groups_of more u) ≤ suc more
unfolding groups_of
length-groups_of-le zero u = omega arith
length-groups_of-le (suc more) u =
    elim (cases_lt u 128) [
      | inl lt ↦ rw (lt-ltb u 128 lt) (omega arith)
      | inr le ↦ rw (le-ltb u 128 le) (let rest = length-groups_of-le more (u / 128) in omega arith)
    ]

unsigned_of-groups_of : (more u : ℕ) → u < 128 ^ suc more → unsigned_of (groups_of more u) ≡ u
unfolding groups_of
unsigned_of-groups_of zero u h = omega arith
unsigned_of-groups_of (suc more) u h =
    elim (cases_lt u 128) [
      | inl lt ↦ rw (lt-ltb u 128 lt) (omega arith)
      | inr le ↦ rw (le-ltb u 128 le) (let rest = unsigned_of-groups_of more (u / 128) (let e = pow-succ' 128 (suc more) in omega arith) in omega arith)
    ]

-- no fewer groups stand for the number
groups_of-least : (more u len : ℕ) → 0 < len → u < 128 ^ len → length (groups_of more u) ≤ len
unfolding groups_of
groups_of-least zero u len some h = omega arith
groups_of-least (suc more) u zero some h = absurd (omega arith)
groups_of-least (suc more) u (suc len) some h =
    elim (cases_lt u 128) [
      | inl lt ↦ rw (lt-ltb u 128 lt) (omega arith)
      | inr le ↦ rw (le-ltb u 128 le) (
          let e = pow-succ' 128 len in
          let left : 0 < len = elim (cases_lt 0 len) [ inl y ↦ y | inr n ↦ absurd (let none : len ≡ 0 = omega arith in let one : u < 128 = subst (λ k. u < 128 ^ suc k) none h in omega arith) ] in
          let rest = groups_of-least more (u / 128) len left (omega arith) in omega arith)
    ]

pub IsGroups-some : (bytes : List ℕ) → IsGroups bytes → 0 < length bytes
IsGroups-some [] g = absurd g
IsGroups-some (b ∷ bytes) g = omega arith

-- ---- what is a spelling is read

-- the last group is the first byte with no top bit
last-of : (text rest : List ℕ) (most : ℕ) → IsGroups text → length text ≤ most → suc (prefix_len is_open (take most (text ++ rest))) ≡ length text
last-of [] rest most g h = absurd g
last-of (b ∷ text) rest zero g h = absurd (omega arith)
last-of (b ∷ []) rest (suc most) g h = rw (lt-leb_false b 128 g) refl
  where
    lt-leb_false : (x y : ℕ) → x < y → leb y x ≡ false
    lt-leb_false x y lt = grind (arith, lt)
last-of (b ∷ c ∷ text) rest (suc most) g h =
    let more = last-of (c ∷ text) rest most g.1 (omega arith) in
    rw (is_true g.0) (omega arith)
  where
    is_true : 128 ≤ b → leb 128 b ≡ true
    is_true le = grind (arith, le)

-- the bytes up to the last group are the spelling
text-of : (text rest : List ℕ) (last : ℕ) → suc last ≡ length text → take (last + 1) (text ++ rest) ≡ text
text-of text rest last e = let one : last + 1 ≡ length text = omega arith in ap (λ (n : ℕ). take n (text ++ rest)) one ∙ take_at text rest (length text) refl

rest-of : (text rest : List ℕ) (last : ℕ) → suc last ≡ length text → drop (last + 1) (text ++ rest) ≡ rest
rest-of text rest last e = let one : last + 1 ≡ length text = omega arith in ap (λ (n : ℕ). drop n (text ++ rest)) one ∙ drop_at text rest (length text) refl

unsigned_at-again : (most limit : ℕ) (text rest : List ℕ) → IsGroups text → length text ≤ most → unsigned_of text < limit → unsigned_at most limit (text ++ rest) ≡ Ok (unsigned_of text, rest)
unfolding unsigned_at
unsigned_at-again most limit text rest groups short fits =
    let bytes = text ++ rest in
    let last = prefix_len is_open (take most bytes) in
    let e : suc last ≡ length text = last-of text rest most groups short in
    let front : take (last + 1) bytes ≡ text = text-of text rest last e in
    let back : drop (last + 1) bytes ≡ rest = rest-of text rest last e in
    let within : leb most last ≡ false = not_le most last (omega arith) in
    let whole : leb (length bytes) last ≡ false = not_le (length bytes) last (omega (arith, length-append text rest)) in
    rw (within, whole, front, back, lt-ltb (unsigned_of text) limit fits) refl
  where
    not_le : (x y : ℕ) → y < x → leb x y ≡ false
    not_le x y lt = grind (arith, lt)

-- a spelling of 32 bits is read
pub varint_at-again : (text rest : List ℕ) (n : ℤ) → IsVarint text n → varint_at (text ++ rest) ≡ Ok (n, rest)
unfolding varint_at
varint_at-again text rest n is =
    rw (unsigned_at-again 5 (2 ^ 32) text rest is.groups is.short is.fits, is.value, signed_of-zigzag_of n) refl

-- a spelling of 64 bits is read
pub varlong_at-again : (text rest : List ℕ) (n : ℤ) → IsVarlong text n → varlong_at (text ++ rest) ≡ Ok (n, rest)
unfolding varlong_at
varlong_at-again text rest n is =
    rw (unsigned_at-again 10 (2 ^ 64) text rest is.groups is.short is.fits, is.value, signed_of-zigzag_of n) refl

-- ---- what is read is a spelling

abbrev done : {A : Type 0} → A → Result A Gap
done x = Ok x

pub ok_is : {A : Type 0} (x y : A) → done x ≡ done y → x ≡ y
ok_is x y e = cc

-- the value of a step that did not fail
pub bind_ok : {A B E : Type 0} (r : Result A E) (f : A → Result B E) (y : B) → (r >>= f) ≡ Ok y → (x : A) × (r ≡ Ok x) × (f x ≡ Ok y)
bind_ok (Ok x) f y e = (x, refl, e)
bind_ok (Err d) f y e = absurd cc

not_both : (g : Gap) (x : ℤ × List ℕ) → ◌≡◌ {A = Result (ℤ × List ℕ) Gap} (Err g) (Ok x) → ⊥
not_both g x e = cc

-- what was read, and the spelling of it
pub record Spells (most limit : ℕ) (bytes : List ℕ) (u : ℕ) (rest : List ℕ) : Type 0 where
  pub text : List ℕ
  pub parts : bytes ≡ text ++ rest
  pub groups : IsGroups text
  pub short : length text ≤ most
  pub fits : u < limit
  pub value : unsigned_of text ≡ u

-- the bytes up to the first one with no top bit are groups
IsGroups-take_by : (b most : ℕ) (bytes : List ℕ) (t : Bool) → leb 128 b ≡ t
    → (prefix_len is_open (take most bytes) < most → prefix_len is_open (take most bytes) < length bytes → IsGroups (take (suc (prefix_len is_open (take most bytes))) bytes))
    → cond t (1 + prefix_len is_open (take most bytes)) 0 < suc most → cond t (1 + prefix_len is_open (take most bytes)) 0 < suc (length bytes)
    → IsGroups (take (suc (cond t (1 + prefix_len is_open (take most bytes)) 0)) (b ∷ bytes))
IsGroups-take_by b most bytes true e more lt some =
    let one : 1 + prefix_len is_open (take most bytes) ≡ suc (prefix_len is_open (take most bytes)) = omega arith in
    rw one (IsGroups-cons b (take (suc (prefix_len is_open (take most bytes))) bytes) (grind (arith, e)) (more (omega arith) (omega arith)))
IsGroups-take_by b most bytes false e more lt some = grind (arith, e)

IsGroups-take : (bytes : List ℕ) (most : ℕ) → prefix_len is_open (take most bytes) < most → prefix_len is_open (take most bytes) < length bytes → IsGroups (take (suc (prefix_len is_open (take most bytes))) bytes)
IsGroups-take [] most lt some = absurd (omega arith)
IsGroups-take (b ∷ bytes) zero lt some = absurd (omega arith)
IsGroups-take (b ∷ bytes) (suc most) lt some = IsGroups-take_by b most bytes (leb 128 b) refl (IsGroups-take bytes most) lt some

spells_by : (most limit last : ℕ) (bytes : List ℕ) (x : ℕ × List ℕ) (a b c : Bool) → last ≡ prefix_len is_open (take most bytes) → leb most last ≡ a → leb (length bytes) last ≡ b → ltb (unsigned_of (take (last + 1) bytes)) limit ≡ c
    → cond a (Err TooLong) (cond b (Err (Needs (length bytes + 1))) (cond c (Ok (unsigned_of (take (last + 1) bytes), drop (last + 1) bytes)) (Err TooLong))) ≡ Ok x → Spells most limit bytes x.0 x.1
spells_by most limit last bytes x true b c is ea eb ec e = absurd cc
spells_by most limit last bytes x false true c is ea eb ec e = absurd cc
spells_by most limit last bytes x false false false is ea eb ec e = absurd cc
spells_by most limit last bytes x false false true is ea eb ec e =
    let within : last < most = not_le most last ea in
    let whole : last < length bytes = not_le (length bytes) last eb in
    let groups : IsGroups (take (suc last) bytes) = subst (λ (n : ℕ). IsGroups (take (suc n) bytes)) (sym is) (IsGroups-take bytes most (omega arith) (omega arith)) in
    let made : Spells most limit bytes (unsigned_of (take (last + 1) bytes)) (drop (last + 1) bytes) = record {
      text = take (last + 1) bytes;
      parts = sym (take-append-drop (last + 1) bytes);
      groups = rw add-one groups;
      short = omega (arith, length-take (last + 1) bytes);
      fits = ltb-true _ _ ec;
      value = refl;
    } in
    subst (λ (y : ℕ × List ℕ). Spells most limit bytes y.0 y.1) (ok_is (unsigned_of (take (last + 1) bytes), drop (last + 1) bytes) x e) made
  where
    not_le : (x y : ℕ) → leb x y ≡ false → y < x
    not_le x y e = grind (arith, e)

-- what is read at the front is a spelling of it
unsigned_at-spells : (most limit : ℕ) (bytes : List ℕ) (x : ℕ × List ℕ) → unsigned_at most limit bytes ≡ Ok x → Spells most limit bytes x.0 x.1
unfolding unsigned_at
unsigned_at-spells most limit bytes x e =
    let last = prefix_len is_open (take most bytes) in
    spells_by most limit last bytes x (leb most last) (leb (length bytes) last) (ltb (unsigned_of (take (last + 1) bytes)) limit) refl refl refl refl e

-- ---- the shortest spelling

-- it is a spelling of 64 bits, and of 32 where the number has no more
pub IsVarlong-shortest_of : (n : ℤ) → zigzag_of n < 2 ^ 64 → IsVarlong (shortest_of n) n
unfolding shortest_of
IsVarlong-shortest_of n h =
    let same = unsigned_of-groups_of 9 (zigzag_of n) (omega arith) in
    record {
      groups = IsGroups-groups_of 9 (zigzag_of n) (omega arith);
      short = length-groups_of-le 9 (zigzag_of n);
      fits = omega (arith, same);
      value = same;
    }

pub IsVarint-shortest_of : (n : ℤ) → zigzag_of n < 2 ^ 32 → IsVarint (shortest_of n) n
unfolding shortest_of
IsVarint-shortest_of n h =
    let same = unsigned_of-groups_of 9 (zigzag_of n) (omega arith) in
    record {
      groups = IsGroups-groups_of 9 (zigzag_of n) (omega arith);
      short = groups_of-least 9 (zigzag_of n) 5 (omega arith) (omega arith);
      fits = omega (arith, same);
      value = same;
    }

-- no spelling is shorter
pub shortest_of-least : (most limit : ℕ) (other : List ℕ) (n : ℤ) → IsSpelling most limit other n → length (shortest_of n) ≤ length other
unfolding shortest_of
shortest_of-least most limit other n is =
    let below = unsigned_of-lt other in
    groups_of-least 9 (zigzag_of n) (length other) (IsGroups-some other is.groups) (omega (arith, is.value))

-- zigzag keeps the bits
pub zigzag_of-lt_32 : (n : ℤ) → SFits w32 n → zigzag_of n < 2 ^ 32
zigzag_of-lt_32 (pos n) h = omega (arith, ints)
zigzag_of-lt_32 (negsuc n) h = omega (arith, ints)

pub zigzag_of-lt_64 : (n : ℤ) → SFits w64 n → zigzag_of n < 2 ^ 64
zigzag_of-lt_64 (pos n) h = omega (arith, ints)
zigzag_of-lt_64 (negsuc n) h = omega (arith, ints)

-- what is read at the front
varint_from : (bytes : List ℕ) (n : ℤ) (u : ℕ) (rest after : List ℕ) → Spells 5 (2 ^ 32) bytes u after → ◌≡◌ {A = Result (ℤ × List ℕ) Gap} (Ok (signed_of u, after)) (Ok (n, rest)) → SpelledBefore IsVarint bytes n rest
varint_from bytes n u rest after read e =
    let same = ok_is (signed_of u, after) (n, rest) e in
    let n-is : signed_of u ≡ n = ap (λ (x : ℤ × List ℕ). x.0) same in
    let rest-is : after ≡ rest = ap (λ (x : ℤ × List ℕ). x.1) same in
    record {
      text = read.text;
      spelled = record {
        groups = read.groups;
        short = read.short;
        fits = omega (arith, read.value, read.fits);
        value = read.value ∙ sym (zigzag_of-signed_of u) ∙ ap zigzag_of n-is;
      };
      parts = read.parts ∙ ap (λ (l : List ℕ). read.text ++ l) rest-is;
    }

pub varint_at-spelled : (bytes : List ℕ) (n : ℤ) (rest : List ℕ) → varint_at bytes ≡ Ok (n, rest) → SpelledBefore IsVarint bytes n rest
unfolding varint_at
varint_at-spelled bytes n rest e =
    let read = bind_ok (unsigned_at 5 (2 ^ 32) bytes) (λ u. Ok (signed_of u.0, u.1)) (n, rest) e in
    varint_from bytes n read.0.0 rest read.0.1 (unsigned_at-spells 5 (2 ^ 32) bytes read.0 read.1) read.2

-- what a reader answered, where a spelling stands at the front
pub varint-found : (bytes after : List ℕ) (r : Result ℤ ByteFault) → IfOk r (λ n. varint_at bytes ≡ Ok (n, after)) → IfOk r (λ n. SpelledBefore IsVarint bytes n after)
varint-found bytes after (Ok n) read = varint_at-spelled bytes n after read
varint-found bytes after (Err f) read = tt

pub varint-only : (bytes after : List ℕ) (place : ℕ) (r : Result ℤ ByteFault) → IfOk r (λ n. varint_at bytes ≡ Ok (n, after)) → IfErr r (λ f. IsFaultAt place (varint_at bytes) f)
    → (n : ℤ) (rest : List ℕ) → SpelledBefore IsVarint bytes n rest → (r ≡ Ok n) × (after ≡ rest)
varint-only bytes after place (Ok m) read fault n rest is =
    let again : varint_at bytes ≡ Ok (n, rest) = ap varint_at is.parts ∙ varint_at-again is.text rest n is.spelled in
    let same = ok_is (m, after) (n, rest) (sym read ∙ again) in
    (ap (λ (x : ℤ × List ℕ). Ok x.0) same, ap (λ (x : ℤ × List ℕ). x.1) same)
varint-only bytes after place (Err f) read fault n rest is =
    let again : varint_at bytes ≡ Ok (n, rest) = ap varint_at is.parts ∙ varint_at-again is.text rest n is.spelled in
    absurd (not_both (gap_of f) (n, rest) (sym fault.gap ∙ again))

-- what is read at the front
varlong_from : (bytes : List ℕ) (n : ℤ) (u : ℕ) (rest after : List ℕ) → Spells 10 (2 ^ 64) bytes u after → ◌≡◌ {A = Result (ℤ × List ℕ) Gap} (Ok (signed_of u, after)) (Ok (n, rest)) → SpelledBefore IsVarlong bytes n rest
varlong_from bytes n u rest after read e =
    let same = ok_is (signed_of u, after) (n, rest) e in
    let n-is : signed_of u ≡ n = ap (λ (x : ℤ × List ℕ). x.0) same in
    let rest-is : after ≡ rest = ap (λ (x : ℤ × List ℕ). x.1) same in
    record {
      text = read.text;
      spelled = record {
        groups = read.groups;
        short = read.short;
        fits = omega (arith, read.value, read.fits);
        value = read.value ∙ sym (zigzag_of-signed_of u) ∙ ap zigzag_of n-is;
      };
      parts = read.parts ∙ ap (λ (l : List ℕ). read.text ++ l) rest-is;
    }

pub varlong_at-spelled : (bytes : List ℕ) (n : ℤ) (rest : List ℕ) → varlong_at bytes ≡ Ok (n, rest) → SpelledBefore IsVarlong bytes n rest
unfolding varlong_at
varlong_at-spelled bytes n rest e =
    let read = bind_ok (unsigned_at 10 (2 ^ 64) bytes) (λ u. Ok (signed_of u.0, u.1)) (n, rest) e in
    varlong_from bytes n read.0.0 rest read.0.1 (unsigned_at-spells 10 (2 ^ 64) bytes read.0 read.1) read.2

-- what a reader answered, where a spelling stands at the front
pub varlong-found : (bytes after : List ℕ) (r : Result ℤ ByteFault) → IfOk r (λ n. varlong_at bytes ≡ Ok (n, after)) → IfOk r (λ n. SpelledBefore IsVarlong bytes n after)
varlong-found bytes after (Ok n) read = varlong_at-spelled bytes n after read
varlong-found bytes after (Err f) read = tt

pub varlong-only : (bytes after : List ℕ) (place : ℕ) (r : Result ℤ ByteFault) → IfOk r (λ n. varlong_at bytes ≡ Ok (n, after)) → IfErr r (λ f. IsFaultAt place (varlong_at bytes) f)
    → (n : ℤ) (rest : List ℕ) → SpelledBefore IsVarlong bytes n rest → (r ≡ Ok n) × (after ≡ rest)
varlong-only bytes after place (Ok m) read fault n rest is =
    let again : varlong_at bytes ≡ Ok (n, rest) = ap varlong_at is.parts ∙ varlong_at-again is.text rest n is.spelled in
    let same = ok_is (m, after) (n, rest) (sym read ∙ again) in
    (ap (λ (x : ℤ × List ℕ). Ok x.0) same, ap (λ (x : ℤ × List ℕ). x.1) same)
varlong-only bytes after place (Err f) read fault n rest is =
    let again : varlong_at bytes ≡ Ok (n, rest) = ap varlong_at is.parts ∙ varlong_at-again is.text rest n is.spelled in
    absurd (not_both (gap_of f) (n, rest) (sym fault.gap ∙ again))
