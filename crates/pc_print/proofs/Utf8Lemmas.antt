-- The bytes of a text are bytes.
use Rattle.std.proofs.Common.{◌≡◌, ℕ, zero, suc, ◌<◌, Bool, true, false, cond, ltb, List, [], ◌∷◌, ◌++◌, refl, subst, inl, inr, arith}
use Rattle.std.specs.Str.{IsUtf8}
use Rattle.std.specs.List.{AllByRecursion}
use Rattle.std.proofs.Math.Utf8.{encode, encodes, scalars, scalar, scalar_cases}
use Rattle.std.proofs.lemmas.Bool.{ltb-true, and_parts}
use Rattle.pc_lines.specs.Escape.{IsBytes}

abbrev AreBytes : List ℕ → Type 0
AreBytes bytes = AllByRecursion (λ b. b < 256) bytes

cond_bytes : (b : Bool) (xs ys : List ℕ) → (b ≡ true → AreBytes xs) → (b ≡ false → AreBytes ys) → AreBytes (cond b xs ys)
cond_bytes true xs ys p q = p refl
cond_bytes false xs ys p q = q refl

small_char : (c : ℕ) → scalar c ≡ true → c < 1114112
small_char c fits = elim (scalar_cases c fits) [ inl low ↦ omega arith | inr high ↦ omega arith ]

encode_bytes : (c : ℕ) → c < 1114112 → AreBytes (encode c)
unfolding encode
encode_bytes c small =
    cond_bytes (ltb c 128) _ _ (λ one. (omega (arith, ltb-true c 128 one), tt)) (λ _.
    cond_bytes (ltb c 2048) _ _ (λ two. let lt = ltb-true c 2048 two in (omega arith, (omega arith, tt))) (λ _.
    cond_bytes (ltb c 65536) _ _ (λ three. let lt = ltb-true c 65536 three in (omega arith, (omega arith, (omega arith, tt)))) (λ _. (omega arith, (omega arith, (omega arith, (omega arith, tt)))))))

AreBytes-append : (a b : List ℕ) → AreBytes a → AreBytes b → AreBytes (a ++ b)
AreBytes-append [] b p q = q
AreBytes-append (x ∷ a) b p q = (p.0, AreBytes-append a b p.1 q)

encodes_bytes : (cs : List ℕ) → scalars cs ≡ true → AreBytes (encodes cs)
encodes_bytes [] fits = tt
encodes_bytes (c ∷ cs) fits = let parts = and_parts (scalar c) (scalars cs) fits in AreBytes-append (encode c) (encodes cs) (encode_bytes c (small_char c parts.0)) (encodes_bytes cs parts.1)

each_byte : (bytes : List ℕ) → AreBytes bytes → IsBytes bytes
each_byte [] h = λ i. omega arith
each_byte (b ∷ bytes) h = elim [ zero ↦ h.0 | suc i ↦ each_byte bytes h.1 i ]

pub IsBytes-from_IsUtf8 : (text : List ℕ) → IsUtf8 text → IsBytes text
IsBytes-from_IsUtf8 text h = subst IsBytes h.1.1 (each_byte (encodes h.0) (encodes_bytes h.0 h.1.0))
