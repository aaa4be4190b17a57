-- Texts put one behind the other.
use Rattle.std.proofs.Common.{◌≡◌, ℕ, ◌+◌, ◌<◌, ◌≤◌, ◌^◌, ℤ, pos, negsuc, List, [], ◌∷◌, ◌++◌, length, map, drop, get_or, Option, Result, Ok, Err, refl, sym, ap, subst, ◌∙◌, append_assoc, arith}
use Rattle.std.specs.Prelude.{◌≤ℤ◌, ◌-ℤ◌, unsigned_abs, FitsSigned, IfOk}
use Rattle.std.specs.Int.{w16, w32, w64}
use Rattle.std.specs.List.{AllByRecursion, flat_map}
use Rattle.std.specs.Str.{IsUtf8}
use Rattle.std.proofs.lemmas.Int.{ints}
use Rattle.std.proofs.lemmas.List.{append-nil, at_drop_more, drop_all}
use Rattle.std.proofs.lemmas.Str.{is_utf8-from_IsUtf8}
use Rattle.pc_model.specs.declared.api.TheConstants.{OFFSET_COMMIT, OFFSET_COMMIT_VERSION}
use Rattle.pc_model.specs.Messages.{CommitItem, CommitRequest, FetchEntry, IsString, IsNullable, IsArray, AreTopics, IsFrame, IsCommitRequest, IsPosition, IsCommitItem, IsEntry, int_spelling, string_spelling, nullable_spelling, array_spelling, header_spelling, commit_item_spelling, entry_spelling, topics_spelling, commit_request_body}
use Rattle.pc_offset_wire.specs.declared.write_fault.WireWriteFault.{WireWriteFault}
use Rattle.pc_offset_wire.specs.declared.write_fault.WireWriteFault.TheVariants.{TooLong, NoMemory}
use Rattle.pc_offset_wire.specs.Writing.{Puts, IsCommitBody}

-- a text that is no longer than a string may be is one
pub is_string : (text : List ℕ) → IsUtf8 text → length text ≤ 32767 → IsString text
is_string text utf8 short = record { short = omega arith; utf8 = is_utf8-from_IsUtf8 text utf8 }

-- what is left of a list, by one of its items
pub left-item : {X Y : Type 0} (f : X → Y) (xs : List X) (i : ℕ) (x : X) → i < length xs → x ≡ get_or xs i x → map f (drop i xs) ≡ f x ∷ map f (drop (i + 1) xs)
left-item f xs i x lt is = at_drop_more (map f) xs i x lt ∙ ap (λ y. f y ∷ map f (drop (i + 1) xs)) (sym is)

pub left-none : {X Y : Type 0} (f : X → Y) (xs : List X) (i : ℕ) → length xs ≤ i → map f (drop i xs) ≡ []
left-none f xs i le = ap (map f) (drop_all i xs le)

-- the first of two texts was put before
pub Puts-front : (result : Result (Unit {0}) WireWriteFault) (front text old mid new : List ℕ) (Fits : Type 0) → mid ≡ old ++ front → Puts text Fits mid new result → Puts (front ++ text) Fits old new result
Puts-front (Ok done) front text old mid new Fits e h = (h.0 ∙ ap (λ (x : List ℕ). x ++ text) e ∙ append_assoc old front text, h.1)
Puts-front (Err TooLong) front text old mid new Fits e h = h
Puts-front (Err NoMemory) front text old mid new Fits e h = tt

-- the fact is another that holds where this one does
Puts-same : (result : Result (Unit {0}) WireWriteFault) (text old new : List ℕ) (Fits Whole : Type 0) → (Fits → Whole) → (Whole → Fits) → Puts text Fits old new result → Puts text Whole old new result
Puts-same (Ok done) text old new Fits Whole to from h = (h.0, to h.1)
Puts-same (Err TooLong) text old new Fits Whole to from h = λ w. h (from w)
Puts-same (Err NoMemory) text old new Fits Whole to from h = tt

-- a step that failed is a failure of the whole
Puts-fails : (fault : WireWriteFault) (text whole old mid new last : List ℕ) (Fits Whole : Type 0) → (Whole → Fits) → Puts text Fits mid new (Err fault) → Puts whole Whole old last (Err fault)
Puts-fails TooLong text whole old mid new last Fits Whole from h = λ w. h (from w)
Puts-fails NoMemory text whole old mid new last Fits Whole from h = tt

-- What is left to be put of some items: with it, the bytes that are there are all; and it fits exactly
-- where all do.
pub record Leaves {A : Type 0} (spelled : A → List ℕ) (IsItem : A → Type 0) (all : List A) (old now : List ℕ) (left : List A) : Type 0 where
  pub text : now ++ flat_map spelled left ≡ old ++ flat_map spelled all
  pub fits : AllByRecursion IsItem left → AllByRecursion IsItem all
  pub part : AllByRecursion IsItem all → AllByRecursion IsItem left

module _ {A : Type 0} (spelled : A → List ℕ) (IsItem : A → Type 0) (all : List A) (old : List ℕ) where
  pub Leaves-all : Leaves spelled IsItem all old old all
  Leaves-all = record { text = refl; fits = λ h. h; part = λ h. h }

  -- one more was put
  pub Leaves-one : (left others : List A) (x : A) (now new : List ℕ) → left ≡ x ∷ others → (new ≡ now ++ spelled x) × IsItem x → Leaves spelled IsItem all old now left → Leaves spelled IsItem all old new others
  Leaves-one left others x now new e put h = record {
    text = ap (λ (t : List ℕ). t ++ flat_map spelled others) put.0 ∙ append_assoc now (spelled x) (flat_map spelled others) ∙ ap (λ (xs : List A). now ++ flat_map spelled xs) (sym e) ∙ h.text;
    fits = λ rest. h.fits (subst (AllByRecursion IsItem) (sym e) (put.1, rest));
    part = λ whole. (subst (AllByRecursion IsItem) e (h.part whole)).1;
  }

  -- none are left
  pub Leaves-none : (left : List A) (now : List ℕ) → left ≡ [] → Leaves spelled IsItem all old now left → (now ≡ old ++ flat_map spelled all) × AllByRecursion IsItem all
  Leaves-none left now e h = (sym (append-nil now) ∙ ap (λ (xs : List A). now ++ flat_map spelled xs) (sym e) ∙ h.text, h.fits (subst (AllByRecursion IsItem) (sym e) tt))

  -- the next did not fit
  pub Leaves-fails : (fault : WireWriteFault) (left others : List A) (x : A) (now new last : List ℕ) → left ≡ x ∷ others → Puts (spelled x) (IsItem x) now new (Err fault) → Leaves spelled IsItem all old now left → Puts (flat_map spelled all) (AllByRecursion IsItem all) old last (Err fault)
  Leaves-fails fault left others x now new last e put h = Puts-fails fault (spelled x) (flat_map spelled all) old now new last (IsItem x) (AllByRecursion IsItem all) (λ whole. (subst (AllByRecursion IsItem) e (h.part whole)).0) put

-- ---- the same behind the count of an array

module _ {A : Type 0} (spelled : A → List ℕ) (IsItem : A → Type 0) (all : List A) (count : ℕ) (old mid : List ℕ) (counted : (mid ≡ old ++ int_spelling w32 (pos count)) × (count < 2 ^ 31)) (is_count : count ≡ length all) where
  pub array-done : (now : List ℕ) → (now ≡ mid ++ flat_map spelled all) × AllByRecursion IsItem all → Puts (array_spelling spelled all) (IsArray IsItem all) old now (Ok tt)
  array-done now h =
      let head : mid ≡ old ++ int_spelling w32 (pos (length all)) = counted.0 ∙ ap (λ (n : ℕ). old ++ int_spelling w32 (pos n)) is_count in
      (h.0 ∙ ap (λ (x : List ℕ). x ++ flat_map spelled all) head ∙ append_assoc old (int_spelling w32 (pos (length all))) (flat_map spelled all), record { few = subst (λ (n : ℕ). n < 2 ^ 31) is_count counted.1; each = h.1 })

  pub array-fails : (fault : WireWriteFault) (now last : List ℕ) → Puts (flat_map spelled all) (AllByRecursion IsItem all) mid now (Err fault) → Puts (array_spelling spelled all) (IsArray IsItem all) old last (Err fault)
  array-fails fault now last h = Puts-fails fault (flat_map spelled all) (array_spelling spelled all) old mid now last (AllByRecursion IsItem all) (IsArray IsItem all) (λ w. w.each) h

-- the count did not fit
pub array-uncounted : {A : Type 0} (spelled : A → List ℕ) (IsItem : A → Type 0) (all : List A) (count : ℕ) (old new last : List ℕ) (fault : WireWriteFault) → count ≡ length all → Puts (int_spelling w32 (pos count)) (count < 2 ^ 31) old new (Err fault) → Puts (array_spelling spelled all) (IsArray IsItem all) old last (Err fault)
array-uncounted spelled IsItem all count old new last fault e h = Puts-fails fault (int_spelling w32 (pos count)) (array_spelling spelled all) old old new last (count < 2 ^ 31) (IsArray IsItem all) (λ w. subst (λ (n : ℕ). n < 2 ^ 31) (sym e) w.few) h

-- ---- fields, one behind the other

pub string-put : (text old mid new : List ℕ) → IsString text → mid ≡ old ++ int_spelling w16 (pos (length text)) → new ≡ mid ++ text → (new ≡ old ++ string_spelling text) × IsString text
string-put text old mid new fits e h = Puts-front (Ok tt) (int_spelling w16 (pos (length text))) text old mid new (IsString text) e (h, fits)

pub header-put : (result : Result (Unit {0}) WireWriteFault) (key version correlation : ℤ) (client : Option (List ℕ)) (old a b c new : List ℕ) → a ≡ old ++ int_spelling w16 key → b ≡ a ++ int_spelling w16 version → c ≡ b ++ int_spelling w32 correlation → Puts (nullable_spelling client) (IsNullable client) c new result → Puts (header_spelling key version correlation client) (IsNullable client) old new result
header-put result key version correlation client old a b c new ea eb ec h =
    Puts-front result (int_spelling w16 key) (int_spelling w16 version ++ (int_spelling w32 correlation ++ nullable_spelling client)) old a new (IsNullable client) ea
    (Puts-front result (int_spelling w16 version) (int_spelling w32 correlation ++ nullable_spelling client) a b new (IsNullable client) eb
    (Puts-front result (int_spelling w32 correlation) (nullable_spelling client) b c new (IsNullable client) ec h))

pub is_position : (least position : ℤ) → FitsSigned w64 position → least ≤ℤ position → IsPosition least position
is_position least position fits le = record { fits = fits; above = unsigned_abs (position -ℤ least); is = omega (arith, ints) }

pub commit_item-put : (result : Result (Unit {0}) WireWriteFault) (item : CommitItem) (old a b new : List ℕ) → FitsSigned w32 item.part → FitsSigned w64 item.position → pos 0 ≤ℤ item.position → a ≡ old ++ int_spelling w32 item.part → b ≡ a ++ int_spelling w64 item.position → Puts (nullable_spelling item.metadata) (IsNullable item.metadata) b new result → Puts (commit_item_spelling item) (IsCommitItem item) old new result
commit_item-put result item old a b new part fits above ea eb h =
    Puts-front result (int_spelling w32 item.part) (int_spelling w64 item.position ++ nullable_spelling item.metadata) old a new (IsCommitItem item) ea
    (Puts-front result (int_spelling w64 item.position) (nullable_spelling item.metadata) a b new (IsCommitItem item) eb
    (Puts-same result (nullable_spelling item.metadata) b new (IsNullable item.metadata) (IsCommitItem item)
    (λ metadata. record { part = part; position = is_position (pos 0) item.position fits above; metadata = metadata }) (λ w. w.metadata) h))

pub entry-put : (item : ℤ × FetchEntry) (old a b c new : List ℕ) → FitsSigned w32 item.0 → FitsSigned w64 item.1.position → negsuc 0 ≤ℤ item.1.position → FitsSigned w16 item.1.code → a ≡ old ++ int_spelling w32 item.0 → b ≡ a ++ int_spelling w64 item.1.position → (c ≡ b ++ nullable_spelling item.1.metadata) × IsNullable item.1.metadata → new ≡ c ++ int_spelling w16 item.1.code → (new ≡ old ++ entry_spelling item) × IsEntry item
entry-put item old a b c new part fits above code ea eb ec h =
    Puts-front (Ok tt) (int_spelling w32 item.0) (int_spelling w64 item.1.position ++ (nullable_spelling item.1.metadata ++ int_spelling w16 item.1.code)) old a new (IsEntry item) ea
    (Puts-front (Ok tt) (int_spelling w64 item.1.position) (nullable_spelling item.1.metadata ++ int_spelling w16 item.1.code) a b new (IsEntry item) eb
    (Puts-front (Ok tt) (nullable_spelling item.1.metadata) (int_spelling w16 item.1.code) b c new (IsEntry item) ec.0
    (h, record { part = part; position = is_position (negsuc 0) item.1.position fits above; metadata = ec.1; code = code })))

pub commit_request-put : (result : Result (Unit {0}) WireWriteFault) (m : CommitRequest) (old a b c d e new : List ℕ) → FitsSigned w32 m.correlation → FitsSigned w32 m.generation → FitsSigned w64 m.retention
    → (a ≡ old ++ header_spelling OFFSET_COMMIT OFFSET_COMMIT_VERSION m.correlation m.client) × IsNullable m.client → (b ≡ a ++ string_spelling m.group) × IsString m.group → c ≡ b ++ int_spelling w32 m.generation → (d ≡ c ++ string_spelling m.member) × IsString m.member → e ≡ d ++ int_spelling w64 m.retention
    → Puts (topics_spelling commit_item_spelling m.topics) (AreTopics IsCommitItem m.topics) e new result → Puts (commit_request_body m) (IsCommitBody m) old new result
commit_request-put result m old a b c d e new correlation generation retention ea eb ec ed ee h =
    let last = topics_spelling commit_item_spelling m.topics in
    let fourth = int_spelling w64 m.retention ++ last in
    let third = string_spelling m.member ++ fourth in
    let second = int_spelling w32 m.generation ++ third in
    let first = string_spelling m.group ++ second in
    Puts-front result (header_spelling OFFSET_COMMIT OFFSET_COMMIT_VERSION m.correlation m.client) first old a new (IsCommitBody m) ea.0
    (Puts-front result (string_spelling m.group) second a b new (IsCommitBody m) eb.0
    (Puts-front result (int_spelling w32 m.generation) third b c new (IsCommitBody m) ec
    (Puts-front result (string_spelling m.member) fourth c d new (IsCommitBody m) ed.0
    (Puts-front result (int_spelling w64 m.retention) last d e new (IsCommitBody m) ee
    (Puts-same result last e new (AreTopics IsCommitItem m.topics) (IsCommitBody m)
    (λ topics. record { correlation = correlation; client = ea.1; group = eb.1; generation = generation; member = ed.1; retention = retention; topics = topics }) (λ w. w.topics) h)))))

-- ---- a body in its frame

pub framed : {V : Type 0} (items : V → List ℕ) (result : Result V WireWriteFault) (body : List ℕ) (Q : V → Type 0) → IfOk result (λ f. IsFrame (items f) body) → ((f : V) → IsFrame (items f) body → Q f) → IfOk result Q
framed items (Ok f) body Q h go = go f h
framed items (Err fault) body Q h go = tt

pub is_commit_request : (m passed : CommitRequest) (frame old body : List ℕ) → passed ≡ m → old ≡ [] → (body ≡ old ++ commit_request_body passed) × IsCommitBody passed → IsFrame frame body → IsCommitRequest frame m
is_commit_request m passed frame old body same empty put spelled =
    let fits = subst IsCommitBody same put.1 in
    let text : body ≡ commit_request_body m = put.0 ∙ ap (λ (x : List ℕ). x ++ commit_request_body passed) empty ∙ ap commit_request_body same in
    record {
      correlation = fits.correlation;
      client = fits.client;
      group = fits.group;
      generation = fits.generation;
      member = fits.member;
      retention = fits.retention;
      topics = fits.topics;
      spelled = subst (IsFrame frame) text spelled;
    }
