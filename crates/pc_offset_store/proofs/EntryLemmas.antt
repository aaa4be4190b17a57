-- What a reply's items are: they have a spelling, and a short one.
use Rattle.std.proofs.Common.{◌≡◌, ℕ, ◌≤◌, ℤ, pos, negsuc, Bool, true, false, cond, List, [], length, Option, Some, None, refl, arith}
use Rattle.std.specs.Prelude.{FitsSigned, ◌≤ℤ◌, nat_lt, not, unwrap_or, unsigned_abs, bytes_eq}
use Rattle.std.specs.Int.{w16}
use Rattle.std.specs.Ordering.{int_eq}
use Rattle.std.specs.List.{list_any}
use Rattle.std.proofs.lemmas.Int.{ints}
use Rattle.std.proofs.lemmas.Str.{IsUtf8-nil, is_utf8-from_IsUtf8}
use Rattle.pc_model.specs.declared.api.TheConstants.{NO_ERROR, UNKNOWN_TOPIC_OR_PARTITION, OFFSET_METADATA_TOO_LARGE, ILLEGAL_GENERATION, UNKNOWN_MEMBER_ID}
use Rattle.pc_model.specs.declared.limits.TheConstants.{MAX_METADATA_BYTES}
use Rattle.pc_model.specs.declared.commit.Commit.{Commit}
use Rattle.pc_model.specs.Broker.{Broker, Membership, entry_of, fetch_entry, has_part, item_code, membership_of, membership_refusal, metadata_text, place_code, stored_for, unknown_entry}
use Rattle.pc_model.specs.Messages.{CommitItem, CommitRequest, FetchEntry, IsCommitCode, IsCommitItem, IsEntry, IsNullable, IsPart, IsPosition, nullable_spelling}
use Rattle.pc_offset_wire.proofs.WritingLemmas.{is_position}
use Rattle.pc_world.specs.World.{AreStorable, IsStorable}
use Rattle.pc_offset_store.proofs.LookupLemmas.{storable}

-- ---- codes

choose : {A : Type 0} (Is : A → Type 0) (which : Bool) (x y : A) → Is x → Is y → Is (cond which x y)
choose Is true x y a b = a
choose Is false x y a b = b

abbrev IsCode : ℤ → Type 0
IsCode code = FitsSigned w16 code

-- a code that is none of a membership's
place-fits : (b : Broker) (name : List ℕ) (item : CommitItem) → IsCode (place_code b name item)
place-fits b name item = choose IsCode (not (has_part b name item.part)) UNKNOWN_TOPIC_OR_PARTITION
    (cond (nat_lt MAX_METADATA_BYTES (length (metadata_text item.metadata))) OFFSET_METADATA_TOO_LARGE NO_ERROR)
    (record { sfits = omega arith })
    (choose IsCode (nat_lt MAX_METADATA_BYTES (length (metadata_text item.metadata))) OFFSET_METADATA_TOO_LARGE
    NO_ERROR (record { sfits = omega arith }) (record { sfits = omega arith }))

abbrev AreCodes : Option ℤ → Type 0
AreCodes None = Unit {0}
AreCodes (Some code) = IsCode code

refusal-fits : (m : Option Membership) (member : List ℕ) (generation : ℤ)
    → AreCodes (membership_refusal m member generation)
refusal-fits None member generation = tt
refusal-fits (Some m) member generation =
    choose AreCodes (not (list_any (bytes_eq member) m.members)) (Some UNKNOWN_MEMBER_ID)
    (cond (not (int_eq m.generation generation)) (Some ILLEGAL_GENERATION) None)
    (record { sfits = omega arith })
    (choose AreCodes (not (int_eq m.generation generation)) (Some ILLEGAL_GENERATION) None
    (record { sfits = omega arith }) tt)

first-fits : (first : Option ℤ) (other : ℤ) → AreCodes first → IsCode other → IsCode (unwrap_or first other)
first-fits None other a b = b
first-fits (Some code) other a b = a

pub code-fits : (b : Broker) (r : CommitRequest) (name : List ℕ) (item : CommitItem)
    → IsCommitItem item
    → IsCommitCode (record { part = item.part; code = item_code b r name item })
code-fits b r name item is = record {
  part = is.part;
  code = first-fits (membership_refusal (membership_of b r.group) r.member r.generation)
      (place_code b name item) (refusal-fits (membership_of b r.group) r.member r.generation)
      (place-fits b name item);
}

-- ---- entries

-- the entry has a spelling, and its text is no longer than one that may be stored
pub record IsSmall (e : FetchEntry) : Type 0 where
  pub least : negsuc 0 ≤ℤ e.position
  pub position : IsPosition (negsuc 0) e.position
  pub metadata : IsNullable e.metadata
  pub code : FitsSigned w16 e.code
  pub short : length (nullable_spelling e.metadata) ≤ 4098

small-none : (code : ℤ) → IsCode code
    → IsSmall (record { position = negsuc 0; metadata = Some []; code = code })
small-none code fits = record {
  least = omega (arith, ints);
  position = record { fits = record { sfits = omega arith }; above = 0; is = refl };
  metadata = record { short = omega arith; utf8 = is_utf8-from_IsUtf8 [] IsUtf8-nil };
  code = fits;
  short = omega arith;
}

small-some : (c : Commit) → IsStorable c → IsSmall (entry_of (Some c))
small-some c may = record {
  least = omega (arith, ints);
  position = is_position (negsuc 0) (pos c.position) (record { sfits = may.position }) (omega (arith, ints));
  metadata = record { short = omega (arith, may.short); utf8 = may.utf8 };
  code = record { sfits = omega arith };
  short = omega (arith, may.short);
}

small-stored : (found : Option Commit) → ((c : Commit) → found ≡ Some c → IsStorable c)
    → IsSmall (entry_of found)
small-stored None may = small-none NO_ERROR (record { sfits = omega arith })
small-stored (Some c) may = small-some c (may c refl)

pub small : (b : Broker) (group name : List ℕ) (part : ℤ) → AreStorable b
    → IsSmall (fetch_entry b group name part)
small b group name part all = choose IsSmall (has_part b name part)
    (entry_of (stored_for b group (unsigned_abs part))) unknown_entry
    (small-stored (stored_for b group (unsigned_abs part))
    (λ c e. storable b group (unsigned_abs part) c all e))
    (small-none UNKNOWN_TOPIC_OR_PARTITION (record { sfits = omega arith }))

pub entry-fits : (b : Broker) (group name : List ℕ) (part : ℤ) → AreStorable b → IsPart part
    → IsEntry (part, fetch_entry b group name part)
entry-fits b group name part all fits = let is = small b group name part all in record {
  part = fits;
  position = is.position;
  metadata = is.metadata;
  code = is.code;
}
