-- A field that is read is of the grammar, and what is of the grammar is read.
use Rattle.std.proofs.Common.{◌≡◌, ℕ, zero, suc, ◌<◌, ◌≤◌, Bool, true, false, cond, ltb, List, ◌++◌, length, take, drop, Option, Some, None, Result, Ok, Err, refl, sym, ap, subst, ◌∙◌, append_assoc, arith}
use Rattle.std.specs.Prelude.{ℤ, pos}
use Rattle.std.proofs.Common.{negsuc}
use Rattle.std.proofs.lemmas.Bool.{ltb-false, le-ltb}
use Rattle.std.proofs.lemmas.List.{take-append-drop, take_at, drop_at, length-append, length-take}
use Rattle.pc_bytes.specs.Fields.{Gap, ◌>>=◌}
use Rattle.pc_bytes.specs.Varint.{IsVarint, IsVarlong, SpelledBefore, varint_at, varlong_at}
use Rattle.pc_bytes.proofs.VarintLaws.{bind_ok, varint_at-spelled, varint_at-again, varlong_at-spelled, varlong_at-again, IsGroups-some}
use Rattle.pc_batch.specs.declared.fault.RecordKind.{RecordKind}
use Rattle.pc_batch.specs.declared.fault.RecordKind.TheVariants.{Varint, Past}
use Rattle.pc_batch.specs.Fields.{or_kind, int_at, long_at, sized_of, sized_at, nullable_of, nullable_at, count_of, count_at}
use Rattle.pc_batch.specs.Grammar.{IsSized, IsNullable}

abbrev done : {A : Type 0} → A → Result A RecordKind
done x = Ok x

pub ok_is : {A : Type 0} (x y : A) → done x ≡ done y → x ≡ y
ok_is x y e = cc

or_kind-ok : {A : Type 0} (kind : RecordKind) (r : Result A Gap) (x : A) → or_kind kind r ≡ Ok x → r ≡ Ok x
or_kind-ok kind (Ok y) x e = ap (λ z. Ok z) (ok_is y x e)
or_kind-ok kind (Err g) x e = absurd cc

-- a test that did not fail
pub guard_ok : {A : Type 0} (b : Bool) (kind : RecordKind) (x y : A) → cond b (Err kind) (Ok x) ≡ Ok y → (b ≡ false) × (x ≡ y)
guard_ok true kind x y e = absurd cc
guard_ok false kind x y e = (refl, ok_is x y e)

-- ---- numbers

pub int-takes : (bytes : List ℕ) (x : ℤ × List ℕ) → int_at bytes ≡ Ok x → SpelledBefore IsVarint bytes x.0 x.1
int-takes bytes x e = varint_at-spelled bytes x.0 x.1 (or_kind-ok Varint (varint_at bytes) x e)

pub int-again : (text rest : List ℕ) (n : ℤ) → IsVarint text n → int_at (text ++ rest) ≡ Ok (n, rest)
int-again text rest n is = ap (or_kind Varint) (varint_at-again text rest n is)

pub long-takes : (bytes : List ℕ) (x : ℤ × List ℕ) → long_at bytes ≡ Ok x → SpelledBefore IsVarlong bytes x.0 x.1
long-takes bytes x e = varlong_at-spelled bytes x.0 x.1 (or_kind-ok Varint (varlong_at bytes) x e)

pub long-again : (text rest : List ℕ) (n : ℤ) → IsVarlong text n → long_at (text ++ rest) ≡ Ok (n, rest)
long-again text rest n is = ap (or_kind Varint) (varlong_at-again text rest n is)

-- a number takes a byte at least
int-shorter : (bytes : List ℕ) (x : ℤ × List ℕ) → int_at bytes ≡ Ok x → length x.1 < length bytes
int-shorter bytes x e =
    let read = int-takes bytes x e in
    let some = IsGroups-some read.text read.spelled.groups in
    omega (arith, ap length read.parts, length-append read.text x.1)

-- ---- parts

part-takes : (n : ℕ) (kind : RecordKind) (bytes : List ℕ) (x : List ℕ × List ℕ) → cond (ltb (length bytes) n) (Err kind) (Ok (take n bytes, drop n bytes)) ≡ Ok x → (bytes ≡ x.0 ++ x.1) × (length x.0 ≡ n)
part-takes n kind bytes x e =
    let g = guard_ok (ltb (length bytes) n) kind (take n bytes, drop n bytes) x e in
    let long : n ≤ length bytes = ltb-false _ _ g.0 in
    let made : (bytes ≡ take n bytes ++ drop n bytes) × (length (take n bytes) ≡ n) = (sym (take-append-drop n bytes), omega (arith, length-take n bytes)) in
    subst (λ (y : List ℕ × List ℕ). (bytes ≡ y.0 ++ y.1) × (length y.0 ≡ n)) g.1 made

part-again : (kind : RecordKind) (part rest : List ℕ) → ◌≡◌ {A = Result (List ℕ × List ℕ) RecordKind} (cond (ltb (length (part ++ rest)) (length part)) (Err kind) (Ok (take (length part) (part ++ rest), drop (length part) (part ++ rest)))) (Ok (part, rest))
part-again kind part rest =
    let long : ltb (length (part ++ rest)) (length part) ≡ false = le-ltb _ _ (omega (arith, length-append part rest)) in
    rw (long, take_at part rest (length part) refl, drop_at part rest (length part) refl) refl

sized_of-takes : (negative outside : RecordKind) (n : ℤ) (bytes : List ℕ) (x : List ℕ × List ℕ) → sized_of negative outside n bytes ≡ Ok x → (bytes ≡ x.0 ++ x.1) × (n ≡ pos (length x.0))
sized_of-takes negative outside (pos n) bytes x e = let t = part-takes n outside bytes x e in (t.0, ap pos (sym t.1))
sized_of-takes negative outside (negsuc n) bytes x e = absurd cc

pub sized-takes : (negative outside : RecordKind) (bytes : List ℕ) (x : List ℕ × List ℕ) → sized_at negative outside bytes ≡ Ok x → SpelledBefore IsSized bytes x.0 x.1
unfolding sized_at
sized-takes negative outside bytes x e =
    let a = bind_ok (int_at bytes) (λ n. sized_of negative outside n.0 n.1) x e in
    let head = int-takes bytes a.0 a.1 in
    let t = sized_of-takes negative outside a.0.0 a.0.1 x a.2 in
    record {
      text = head.text ++ x.0;
      spelled = record { head = head.text; len = subst (IsVarint head.text) t.1 head.spelled; parts = refl };
      parts = head.parts ∙ ap (λ (l : List ℕ). head.text ++ l) t.0 ∙ sym (append_assoc head.text x.0 x.1);
    }

pub sized-again : (negative outside : RecordKind) (text part rest : List ℕ) → IsSized text part → sized_at negative outside (text ++ rest) ≡ Ok (part, rest)
unfolding sized_at
sized-again negative outside text part rest is =
    let whole : text ++ rest ≡ is.head ++ (part ++ rest) = ap (λ (l : List ℕ). l ++ rest) is.parts ∙ append_assoc is.head part rest in
    ap (λ (l : List ℕ). int_at l >>= λ n. sized_of negative outside n.0 n.1) whole
    ∙ ap (λ (r : Result (ℤ × List ℕ) RecordKind). r >>= λ n. sized_of negative outside n.0 n.1) (int-again is.head (part ++ rest) (pos (length part)) is.len)
    ∙ part-again outside part rest

nullable_of-takes : (below : RecordKind) (n : ℤ) (head bytes : List ℕ) (x : Option (List ℕ) × List ℕ) → IsVarint head n → nullable_of below n bytes ≡ Ok x → SpelledBefore IsNullable (head ++ bytes) x.0 x.1
nullable_of-takes below (pos n) head bytes x is e =
    let g = guard_ok (ltb (length bytes) n) Past (Some (take n bytes), drop n bytes) x e in
    let long : n ≤ length bytes = ltb-false _ _ g.0 in
    let len : n ≡ length (take n bytes) = omega (arith, length-take n bytes) in
    let made : SpelledBefore IsNullable (head ++ bytes) (Some (take n bytes)) (drop n bytes) = record {
      text = head ++ take n bytes;
      spelled = record { head = head; len = subst (λ (m : ℕ). IsVarint head (pos m)) len is; parts = refl };
      parts = ap (λ (l : List ℕ). head ++ l) (sym (take-append-drop n bytes)) ∙ sym (append_assoc head (take n bytes) (drop n bytes));
    } in
    subst (λ (y : Option (List ℕ) × List ℕ). SpelledBefore IsNullable (head ++ bytes) y.0 y.1) g.1 made
nullable_of-takes below (negsuc zero) head bytes x is e =
    let made : SpelledBefore IsNullable (head ++ bytes) None bytes = record { text = head; spelled = is; parts = refl } in
    subst (λ (y : Option (List ℕ) × List ℕ). SpelledBefore IsNullable (head ++ bytes) y.0 y.1) (ok_is (None, bytes) x e) made
nullable_of-takes below (negsuc (suc n)) head bytes x is e = absurd cc

pub nullable-takes : (below : RecordKind) (bytes : List ℕ) (x : Option (List ℕ) × List ℕ) → nullable_at below bytes ≡ Ok x → SpelledBefore IsNullable bytes x.0 x.1
unfolding nullable_at
nullable-takes below bytes x e =
    let a = bind_ok (int_at bytes) (λ n. nullable_of below n.0 n.1) x e in
    let head = int-takes bytes a.0 a.1 in
    subst (λ (l : List ℕ). SpelledBefore IsNullable l x.0 x.1) (sym head.parts) (nullable_of-takes below a.0.0 head.text a.0.1 x head.spelled a.2)

pub nullable-again : (below : RecordKind) (text rest : List ℕ) (o : Option (List ℕ)) → IsNullable text o → nullable_at below (text ++ rest) ≡ Ok (o, rest)
unfolding nullable_at
nullable-again below text rest None is =
    ap (λ (r : Result (ℤ × List ℕ) RecordKind). r >>= λ n. nullable_of below n.0 n.1) (int-again text rest (negsuc 0) is)
nullable-again below text rest (Some part) is =
    let whole : text ++ rest ≡ is.head ++ (part ++ rest) = ap (λ (l : List ℕ). l ++ rest) is.parts ∙ append_assoc is.head part rest in
    let long : ltb (length (part ++ rest)) (length part) ≡ false = le-ltb _ _ (omega (arith, length-append part rest)) in
    ap (λ (l : List ℕ). int_at l >>= λ n. nullable_of below n.0 n.1) whole
    ∙ ap (λ (r : Result (ℤ × List ℕ) RecordKind). r >>= λ n. nullable_of below n.0 n.1) (int-again is.head (part ++ rest) (pos (length part)) is.len)
    ∙ rw (long, take_at part rest (length part) refl, drop_at part rest (length part) refl) refl

-- ---- the count of headers

count_of-takes : (n : ℤ) (bytes : List ℕ) (x : ℕ × List ℕ) → count_of n bytes ≡ Ok x → (n ≡ pos x.0) × (bytes ≡ x.1)
count_of-takes (pos n) bytes x e = let same = ok_is (n, bytes) x e in (ap (λ (y : ℕ × List ℕ). pos y.0) same, ap (λ (y : ℕ × List ℕ). y.1) same)
count_of-takes (negsuc n) bytes x e = absurd cc

pub count-takes : (bytes : List ℕ) (x : ℕ × List ℕ) → count_at bytes ≡ Ok x → SpelledBefore IsVarint bytes (pos x.0) x.1
unfolding count_at
count-takes bytes x e =
    let a = bind_ok (int_at bytes) (λ n. count_of n.0 n.1) x e in
    let head = int-takes bytes a.0 a.1 in
    let t = count_of-takes a.0.0 a.0.1 x a.2 in
    record {
      text = head.text;
      spelled = subst (IsVarint head.text) t.0 head.spelled;
      parts = head.parts ∙ ap (λ (l : List ℕ). head.text ++ l) t.1;
    }

pub count-again : (text rest : List ℕ) (n : ℕ) → IsVarint text (pos n) → count_at (text ++ rest) ≡ Ok (n, rest)
unfolding count_at
count-again text rest n is = ap (λ (r : Result (ℤ × List ℕ) RecordKind). r >>= λ m. count_of m.0 m.1) (int-again text rest (pos n) is)
