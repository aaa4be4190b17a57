-- What is accepted may be stored.
use Rattle.std.proofs.Common.{◌≡◌, ℕ, ◌≤◌, ◌<◌, ◌^◌, ℤ, pos, negsuc, Bool, true, false, cond, ltb, List, [], ◌∷◌, ◌++◌, length, Option, Some, None, refl, sym, subst, true≢false, arith}
use Rattle.std.specs.Prelude.{bytes_eq, not, unwrap_or, unsigned_abs}
use Rattle.std.specs.Ordering.{int_eq}
use Rattle.std.specs.Str.{is_utf8}
use Rattle.std.specs.List.{AllByRecursion, flat_map, list_any}
use Rattle.std.proofs.lemmas.Bool.{ltb-false}
use Rattle.std.proofs.lemmas.Int.{ints}
use Rattle.std.proofs.lemmas.Str.{IsUtf8-nil, is_utf8-from_IsUtf8}
use Rattle.pc_model.specs.declared.api.TheConstants.{NO_ERROR, UNKNOWN_TOPIC_OR_PARTITION, OFFSET_METADATA_TOO_LARGE, ILLEGAL_GENERATION, UNKNOWN_MEMBER_ID}
use Rattle.pc_model.specs.declared.limits.TheConstants.{MAX_METADATA_BYTES}
use Rattle.pc_model.specs.Broker.{Broker, Membership, Stored, commit_in, has_part, item_code, membership_of, membership_refusal, metadata_text, place_code}
use Rattle.pc_model.specs.Messages.{CommitItem, CommitRequest, IsCommitItem, IsNullable, IsPosition, IsTopic, Topic}
use Rattle.pc_world.specs.World.{IsStorable}
use Rattle.pc_offset_store.specs.Store.{accepted_item, accepted_of}

abbrev Holds : Stored → Type 0
Holds s = IsStorable s.commit

-- ---- an item that is accepted has a short text

place-zero : (has long : Bool)
    → int_eq (cond (not has) UNKNOWN_TOPIC_OR_PARTITION (cond long OFFSET_METADATA_TOO_LARGE NO_ERROR)) NO_ERROR ≡ true
    → long ≡ false
place-zero true true e = absurd (true≢false (sym e))
place-zero true false e = refl
place-zero false true e = absurd (true≢false (sym e))
place-zero false false e = refl

refusal-zero : (is_member is_current : Bool) (place : ℤ)
    → int_eq (unwrap_or (cond (not is_member) (Some UNKNOWN_MEMBER_ID)
    (cond (not is_current) (Some ILLEGAL_GENERATION) None)) place) NO_ERROR ≡ true
    → int_eq place NO_ERROR ≡ true
refusal-zero true true place e = e
refusal-zero true false place e = absurd (true≢false (sym e))
refusal-zero false true place e = absurd (true≢false (sym e))
refusal-zero false false place e = absurd (true≢false (sym e))

first-zero : (m : Option Membership) (member : List ℕ) (generation place : ℤ)
    → int_eq (unwrap_or (membership_refusal m member generation) place) NO_ERROR ≡ true
    → int_eq place NO_ERROR ≡ true
first-zero None member generation place e = e
first-zero (Some m) member generation place e = refusal-zero (list_any (bytes_eq member) m.members)
    (int_eq m.generation generation) place e

short-text : (b : Broker) (r : CommitRequest) (name : List ℕ) (item : CommitItem)
    → int_eq (item_code b r name item) NO_ERROR ≡ true
    → length (metadata_text item.metadata) ≤ MAX_METADATA_BYTES
short-text b r name item e =
    let place = first-zero (membership_of b r.group) r.member r.generation (place_code b name item) e in
    ltb-false _ _ (place-zero (has_part b name item.part)
    (ltb MAX_METADATA_BYTES (length (metadata_text item.metadata))) place)

-- ---- what is stored for it

text-utf8 : (metadata : Option (List ℕ)) → IsNullable metadata → is_utf8 (metadata_text metadata) ≡ true
text-utf8 None is = is_utf8-from_IsUtf8 [] IsUtf8-nil
text-utf8 (Some text) is = is.utf8

small-position : (position : ℤ) → IsPosition (pos 0) position → unsigned_abs position < 2 ^ 63
small-position (pos n) is = is.fits.sfits
small-position (negsuc n) is = absurd (omega (arith, ints, is.is))

module _ (b : Broker) (r : CommitRequest) where
  item-holds : (name : List ℕ) (item : CommitItem) (s : Stored) (accepted : Bool) → IsCommitItem item
      → s.commit ≡ commit_in item
      → (accepted ≡ true → length (metadata_text item.metadata) ≤ MAX_METADATA_BYTES)
      → AllByRecursion Holds (cond accepted (s ∷ []) [])
  item-holds name item s true is e short = (
    subst IsStorable (sym e) (record {
      position = small-position item.position is.position;
      short = short refl;
      utf8 = text-utf8 item.metadata is.metadata;
    }),
    tt,
  )
  item-holds name item s false is e short = tt

  all-append : (xs ys : List Stored) → AllByRecursion Holds xs → AllByRecursion Holds ys
      → AllByRecursion Holds (xs ++ ys)
  all-append [] ys these others = others
  all-append (x ∷ xs) ys these others = (these.0, all-append xs ys these.1 others)

  items-hold : (name : List ℕ) (items : List CommitItem) → AllByRecursion IsCommitItem items
      → AllByRecursion Holds (flat_map (accepted_item b r name) items)
  items-hold name [] all = tt
  items-hold name (item ∷ items) all = all-append (accepted_item b r name item)
      (flat_map (accepted_item b r name) items)
      (item-holds name item (record { group = r.group; part = unsigned_abs item.part; commit = commit_in item })
      (int_eq (item_code b r name item) NO_ERROR) all.0 refl (short-text b r name item))
      (items-hold name items all.1)

  pub accepted-hold : (topics : List (Topic CommitItem)) → AllByRecursion (IsTopic IsCommitItem) topics
      → AllByRecursion Holds (flat_map (accepted_of b r) topics)
  accepted-hold [] all = tt
  accepted-hold (topic ∷ topics) all = all-append (accepted_of b r topic)
      (flat_map (accepted_of b r) topics) (items-hold topic.name topic.items all.0.items.each)
      (accepted-hold topics all.1)
