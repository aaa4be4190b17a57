-- The headers that are read are of the grammar, and what is of the grammar is read.
use Rattle.std.proofs.Common.{◌≡◌, ℕ, zero, suc, Bool, true, false, cond, eqb, List, [], ◌∷◌, ◌++◌, length, Option, Result, Ok, Err, refl, sym, ap, subst, ◌∙◌, append_assoc}
use Rattle.std.specs.Prelude.{pos}
use Rattle.std.proofs.lemmas.Bool.{eqb-true}
use Rattle.std.proofs.lemmas.List.{append-nil, nil_from_length}
use Rattle.pc_bytes.specs.Varint.{IsVarint, SpelledBefore}
use Rattle.pc_bytes.proofs.VarintLaws.{bind_ok}
use Rattle.pc_batch.specs.declared.fault.RecordKind.{RecordKind}
use Rattle.pc_batch.specs.declared.fault.RecordKind.TheVariants.{Past, HeaderKeyLength, HeaderValueLength, Leftover}
use Rattle.pc_batch.specs.Fields.{sized_at, nullable_at, count_at}
use Rattle.pc_batch.specs.Headers.{header_at, headers_at, all_headers_at}
use Rattle.pc_batch.specs.Grammar.{IsHeader, AreHeaders}
use Rattle.pc_batch.proofs.FieldLaws.{ok_is, sized-takes, sized-again, nullable-takes, nullable-again, count-takes, count-again}

abbrev Header : Type 0
Header = List ℕ × Option (List ℕ)

header-takes : (bytes : List ℕ) (x : Header × List ℕ) → header_at bytes ≡ Ok x → SpelledBefore IsHeader bytes x.0 x.1
unfolding header_at
header-takes bytes x e =
    let a = bind_ok (sized_at HeaderKeyLength Past bytes) _ x e in
    let b = bind_ok (nullable_at HeaderValueLength a.0.1) _ x a.2 in
    let key = sized-takes HeaderKeyLength Past bytes a.0 a.1 in
    let value = nullable-takes HeaderValueLength a.0.1 b.0 b.1 in
    let made : SpelledBefore IsHeader bytes (a.0.0, b.0.0) b.0.1 = record {
      text = key.text ++ value.text;
      spelled = record { key = key.text; value = value.text; is_key = key.spelled; is_value = value.spelled; parts = refl };
      parts = key.parts ∙ ap (λ (l : List ℕ). key.text ++ l) value.parts ∙ sym (append_assoc key.text value.text b.0.1);
    } in
    subst (λ (y : Header × List ℕ). SpelledBefore IsHeader bytes y.0 y.1) (ok_is ((a.0.0, b.0.0), b.0.1) x b.2) made

header-again : (text rest : List ℕ) (h : Header) → IsHeader text h → header_at (text ++ rest) ≡ Ok (h, rest)
unfolding header_at
header-again text rest h is =
    let whole : text ++ rest ≡ is.key ++ (is.value ++ rest) = ap (λ (l : List ℕ). l ++ rest) is.parts ∙ append_assoc is.key is.value rest in
    rw (whole, sized-again HeaderKeyLength Past is.key h.0 (is.value ++ rest) is.is_key, nullable-again HeaderValueLength is.value rest h.1 is.is_value) refl

-- what so many headers are
pub record TakesHeaders (n : ℕ) (bytes : List ℕ) (hs : List Header) (rest : List ℕ) : Type 0 where
  pub text : List ℕ
  pub spelled : AreHeaders text hs
  pub parts : bytes ≡ text ++ rest
  pub count : length hs ≡ n

headers-takes : (n : ℕ) (bytes : List ℕ) (x : List Header × List ℕ) → headers_at n bytes ≡ Ok x → TakesHeaders n bytes x.0 x.1
unfolding headers_at
headers-takes zero bytes x e =
    let made : TakesHeaders 0 bytes [] bytes = record { text = []; spelled = refl; parts = refl; count = refl } in
    subst (λ (y : List Header × List ℕ). TakesHeaders 0 bytes y.0 y.1) (ok_is ([], bytes) x e) made
headers-takes (suc n) bytes x e =
    let a = bind_ok (header_at bytes) _ x e in
    let b = bind_ok (headers_at n a.0.1) _ x a.2 in
    let first = header-takes bytes a.0 a.1 in
    let others = headers-takes n a.0.1 b.0 b.1 in
    let made : TakesHeaders (suc n) bytes (a.0.0 ∷ b.0.0) b.0.1 = record {
      text = first.text ++ others.text;
      spelled = (first.text, others.text, first.spelled, others.spelled, refl);
      parts = first.parts ∙ ap (λ (l : List ℕ). first.text ++ l) others.parts ∙ sym (append_assoc first.text others.text b.0.1);
      count = ap suc others.count;
    } in
    subst (λ (y : List Header × List ℕ). TakesHeaders (suc n) bytes y.0 y.1) (ok_is (a.0.0 ∷ b.0.0, b.0.1) x b.2) made

headers-again : (hs : List Header) (text rest : List ℕ) → AreHeaders text hs → headers_at (length hs) (text ++ rest) ≡ Ok (hs, rest)
unfolding headers_at
headers-again [] text rest is = ap (λ (l : List ℕ). Ok ([], l ++ rest)) is
headers-again (h ∷ hs) text rest is =
    let whole : text ++ rest ≡ is.0 ++ (is.1 ++ rest) = ap (λ (l : List ℕ). l ++ rest) is.4 ∙ append_assoc is.0 is.1 rest in
    rw (whole, header-again is.0 (is.1 ++ rest) h is.2, headers-again hs is.1 rest is.3) refl

-- a count, and so many headers
pub record AreAllHeaders (bytes : List ℕ) (hs : List Header) : Type 0 where
  pub count : List ℕ
  pub headers : List ℕ
  pub is_count : IsVarint count (pos (length hs))
  pub are_headers : AreHeaders headers hs
  pub parts : bytes ≡ count ++ headers

guard_ended : (b : Bool) (x y : List Header) → ◌≡◌ {A = Result (List Header) RecordKind} (cond b (Ok x) (Err Leftover)) (Ok y) → (b ≡ true) × (x ≡ y)
guard_ended true x y e = (refl, ok_is x y e)
guard_ended false x y e = absurd cc

pub all_headers-takes : (bytes : List ℕ) (hs : List Header) → all_headers_at bytes ≡ Ok hs → AreAllHeaders bytes hs
unfolding all_headers_at
all_headers-takes bytes hs e =
    let a = bind_ok (count_at bytes) _ hs e in
    let b = bind_ok (headers_at a.0.0 a.0.1) _ hs a.2 in
    let g = guard_ended (eqb (length b.0.1) 0) b.0.0 hs b.2 in
    let count = count-takes bytes a.0 a.1 in
    let headers = headers-takes a.0.0 a.0.1 b.0 b.1 in
    let nothing : b.0.1 ≡ [] = nil_from_length b.0.1 (eqb-true _ _ g.0) in
    let ended : a.0.1 ≡ headers.text = headers.parts ∙ ap (λ (l : List ℕ). headers.text ++ l) nothing ∙ append-nil headers.text in
    let made : AreAllHeaders bytes b.0.0 = record {
      count = count.text;
      headers = headers.text;
      is_count = subst (λ (n : ℕ). IsVarint count.text (pos n)) (sym headers.count) count.spelled;
      are_headers = headers.spelled;
      parts = count.parts ∙ ap (λ (l : List ℕ). count.text ++ l) ended;
    } in
    subst (AreAllHeaders bytes) g.1 made

pub all_headers-again : (count headers : List ℕ) (hs : List Header) → IsVarint count (pos (length hs)) → AreHeaders headers hs → all_headers_at (count ++ headers) ≡ Ok hs
unfolding all_headers_at
all_headers-again count headers hs is_count are =
    let read : headers_at (length hs) headers ≡ Ok (hs, []) = ap (headers_at (length hs)) (sym (append-nil headers)) ∙ headers-again hs headers [] are in
    rw (count-again count headers (length hs) is_count, read) refl
