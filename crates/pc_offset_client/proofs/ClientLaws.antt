-- What the client asks has a frame, and what a broker answers of it.
use Rattle.std.proofs.Common.{◌≡◌, ◌⊎◌, ℕ, zero, suc, ◌+◌, ◌^◌, ◌<◌, ℤ, pos, negsuc, Bool, true, false, cond, List, [], ◌∷◌, length, Option, Some, None, Result, Ok, Err, refl, sym, ap, subst, ◌∙◌, inl, inr, arith, true≢false}
use Rattle.std.specs.Prelude.{FitsSigned, bytes_eq, nat_lt, not, unwrap_or, is_err, is_ok, IsOk, find, ⊤}
use Rattle.std.specs.Int.{w16, w32, w64, cast_signed, cast_unsigned}
use Rattle.std.specs.List.{AllByRecursion, list_any}
use Rattle.std.specs.Option.{option_map}
use Rattle.std.specs.Ordering.{int_eq}
use Rattle.std.specs.Str.{is_utf8}
use Rattle.std.proofs.lemmas.Bool.{cases_Bool}
use Rattle.std.proofs.lemmas.Bool.Decides.{Decides-int_eq}
use Rattle.std.proofs.lemmas.Int.{fits_signed_from_abs, ints, to_z-of_z}
use Rattle.std.proofs.lemmas.List.{append-nil}
use Rattle.std.proofs.lemmas.Str.{is_utf8-from_IsUtf8, IsUtf8-from_ascii}
use Rattle.std.proofs.lemmas.Bool.{ltb-true}
use Rattle.std.specs.Prelude.{◌&&◌}
use Rattle.std.specs.List.{list_all}
use Rattle.std.proofs.lemmas.Str.Ascii.{IsAscii-nil}
use Rattle.std.specs.Str.{IsAscii}
use Rattle.pc_model.specs.declared.commit.Commit.{Commit}
use Rattle.pc_model.specs.declared.api.TheConstants.{NO_ERROR, UNKNOWN_TOPIC_OR_PARTITION, OFFSET_METADATA_TOO_LARGE, ILLEGAL_GENERATION, UNKNOWN_MEMBER_ID}
use Rattle.pc_model.specs.declared.limits.TheConstants.{MAX_METADATA_BYTES}
use Rattle.pc_model.specs.declared.wire_fault.WireFault.{WireFault}
use Rattle.pc_model.specs.Messages.{Topic, CommitItem, CommitRequest, FetchRequest, IsString, IsTopic, AreTopics, IsCommitRequest, IsCommitReply, IsEntry, IsFetchRequest, IsFetchReply, FetchEntry, commit_request_body, fetch_request_body, frame_spelling}
use Rattle.pc_model.specs.MessageReading.{commit_reply_reading, fetch_reply_reading}
use Rattle.pc_model.specs.Given.{no_commit}
use Rattle.pc_model.specs.Broker.{Broker, Membership, Request, Commits, Fetches, Refusal, TooLong, request_reading, broker_step, step_of, reply_body, after_request, after_items, after_some, item_code, membership_of, membership_refusal, metadata_text, stored_for, is_for, has_part, commit_reply_of, fetch_reply_of, fetch_entry, entry_of, unknown_entry, Stored}
use Rattle.pc_world.specs.World.{AreStorable, IsStorable, MayStore}
use Rattle.pc_offset_client.specs.declared.fault.ClientFault.{ClientFault}
use Rattle.pc_offset_client.specs.declared.fault.ClientFault.TheVariants.{LinkFailed, Refused, BadReply, OtherReply, NoMemory}
use Rattle.pc_offset_client.specs.Client.{CLIENT, GROUP, TOPIC, ◌>>=◌, accepted, commit_answer, commit_question, entry_commit, fetch_answer, fetch_question, item_of, only_item, only_one, reply_of, same, same_topic, Accepts, CommitGives, FetchGives, commit_code, kept_for, with_commit}
use Rattle.pc_offset_wire.proofs.MessageLaws.{commits-read, fetches-read, commit_reply-read, fetch_reply-read}

-- ---- what is asked fits

and-both : (a b : Bool) → (a && b) ≡ true → (a ≡ true) × (b ≡ true)
and-both true b is = (refl, is)
and-both false b is = absurd (true≢false (sym is))

are-ascii : (bs : List ℕ) → list_all (λ b. nat_lt b 128) bs ≡ true → IsAscii bs
are-ascii [] all i = IsAscii-nil i
are-ascii (b ∷ bs) all zero = ltb-true b 128 (and-both (nat_lt b 128) _ all).0
are-ascii (b ∷ bs) all (suc i) = are-ascii bs (and-both (nat_lt b 128) _ all).1 i

ascii-text : (bs : List ℕ) → list_all (λ b. nat_lt b 128) bs ≡ true → is_utf8 bs ≡ true
ascii-text bs all = is_utf8-from_IsUtf8 bs (IsUtf8-from_ascii bs (are-ascii bs all))

group-string : IsString GROUP
group-string = record { short = omega arith; utf8 = ascii-text _ refl }

topic-string : IsString TOPIC
topic-string = record { short = omega arith; utf8 = ascii-text _ refl }

client-string : IsString CLIENT
client-string = record { short = omega arith; utf8 = ascii-text _ refl }

member-string : IsString []
member-string = record { short = omega arith; utf8 = ascii-text _ refl }

body-length : (id : ℤ) (part : ℕ) (c : Commit) → length (commit_request_body (commit_question id part c)) ≡ 61 + length c.map
body-length id part c = rw (append-nil c.map, append-nil c.map) (omega arith)

fetch-body-length : (id : ℤ) (part : ℕ) → length (fetch_request_body (fetch_question id part)) ≡ 37
fetch-body-length id part = refl

question-fits : (id : ℤ) (part : ℕ) (c : Commit) → FitsSigned w32 id → part < 2 ^ 31 → c.position < 2 ^ 63
    → length c.map < 2 ^ 15 → is_utf8 c.map ≡ true
    → IsCommitRequest (frame_spelling (commit_request_body (commit_question id part c))) (commit_question id part c)
question-fits id part c id_fits part_fits position_fits short utf8 = record {
  correlation = id_fits;
  client = client-string;
  group = group-string;
  generation = fits_signed_from_abs w32 (negsuc 0) (omega arith);
  member = member-string;
  retention = fits_signed_from_abs w64 (negsuc 0) (omega arith);
  topics = record {
    few = omega arith;
    each = (
      record {
        name = topic-string;
        items = record {
          few = omega arith;
          each = (
            record {
              part = fits_signed_from_abs w32 (pos part) (omega arith);
              position = record { fits = fits_signed_from_abs w64 (pos c.position) (omega arith); above = c.position; is = ap pos (omega arith) };
              metadata = record { short = omega arith; utf8 = utf8 };
            },
            tt,
          );
        };
      },
      tt,
    );
  };
  spelled = record { short = omega (arith, body-length id part c); is = refl };
}

fetch_question-fits : (id : ℤ) (part : ℕ) → FitsSigned w32 id → part < 2 ^ 31
    → IsFetchRequest (frame_spelling (fetch_request_body (fetch_question id part))) (fetch_question id part)
fetch_question-fits id part id_fits part_fits = record {
  correlation = id_fits;
  client = client-string;
  group = group-string;
  topics = record {
    few = omega arith;
    each = (
      record {
        name = topic-string;
        items = record {
          few = omega arith;
          each = (fits_signed_from_abs w32 (pos part) (omega arith), tt);
        };
      },
      tt,
    );
  };
  spelled = record { short = omega (arith, fetch-body-length id part); is = refl };
}

-- the same of the numbers and the text as the code has them
pub question-fits_by : (id : ℤ) (part : ℕ) (c : Commit) (x y : ℤ) (z : List ℕ) → x ≡ pos part → y ≡ pos c.position → z ≡ c.map
    → FitsSigned w32 id → part < 2 ^ 31 → c.position < 2 ^ 63
    → length c.map < 2 ^ 15 → is_utf8 z ≡ true
    → IsCommitRequest (frame_spelling (commit_request_body (commit_question id part c))) (record {
      correlation = cast_signed w32 (cast_unsigned w32 id);
      client = Some CLIENT;
      group = GROUP;
      generation = negsuc 0;
      member = [];
      retention = negsuc 0;
      topics = record {
        name = TOPIC;
        items = record {
          part = cast_signed w32 (cast_unsigned w32 x);
          position = cast_signed w64 (cast_unsigned w64 y);
          metadata = Some z;
        } ∷ [];
      } ∷ [];
    })
question-fits_by id part c x y z x_is y_is z_is id_fits part_fits position_fits short utf8 =
    rw (
      to_z-of_z w32 id id_fits,
      x_is,
      y_is,
      z_is,
      to_z-of_z w32 (pos part) (fits_signed_from_abs w32 (pos part) (omega arith)),
      to_z-of_z w64 (pos c.position) (fits_signed_from_abs w64 (pos c.position) (omega arith)),
    )
    (question-fits id part c id_fits part_fits position_fits short (rw z_is at utf8))

pub fetch_question-fits_by : (id : ℤ) (part : ℕ) (x : ℤ) → x ≡ pos part → FitsSigned w32 id → part < 2 ^ 31
    → IsFetchRequest (frame_spelling (fetch_request_body (fetch_question id part))) (record {
      correlation = cast_signed w32 (cast_unsigned w32 id);
      client = Some CLIENT;
      group = GROUP;
      topics = record { name = TOPIC; items = cast_signed w32 (cast_unsigned w32 x) ∷ [] } ∷ [];
    })
fetch_question-fits_by id part x x_is id_fits part_fits =
    rw (to_z-of_z w32 id id_fits, x_is, to_z-of_z w32 (pos part) (fits_signed_from_abs w32 (pos part) (omega arith)))
    (fetch_question-fits id part id_fits part_fits)

-- ---- the faults of an answer are those of a reply

abbrev IsReplyFault : {A : Type 0} → Result A ClientFault → Type 0
IsReplyFault (Err LinkFailed) = ⊥
IsReplyFault (Err NoMemory) = ⊥
IsReplyFault r = ⊤

bind-fault : {A B : Type 0} (r : Result A ClientFault) (f : A → Result B ClientFault) → IsReplyFault r
    → ((x : A) → IsReplyFault (f x)) → IsReplyFault (r >>= f)
bind-fault (Ok x) f here there = there x
bind-fault (Err LinkFailed) f here there = here
bind-fault (Err NoMemory) f here there = here
bind-fault (Err (Refused code)) f here there = here
bind-fault (Err (BadReply fault)) f here there = here
bind-fault (Err (OtherReply asked got)) f here there = here

other-fault : {A : Type 0} (b : Bool) (x : A) (asked got : ℤ)
    → IsReplyFault (cond {A = Result A ClientFault} b (Ok x) (Err (OtherReply asked got)))
other-fault true x asked got = tt
other-fault false x asked got = tt

accepted-fault : (b : Bool) (code : ℤ)
    → IsReplyFault (cond {A = Result (Unit {0}) ClientFault} b (Ok tt) (Err (Refused code)))
accepted-fault true code = tt
accepted-fault false code = tt

only_one-fault : {A : Type 0} (xs : List A) → IsReplyFault (only_one xs)
only_one-fault [] = tt
only_one-fault (x ∷ []) = tt
only_one-fault (x ∷ y ∷ xs) = tt

reply-fault : {A : Type 0} (r : Result A WireFault) → IsReplyFault (reply_of r)
reply-fault (Ok x) = tt
reply-fault (Err fault) = tt

only_item-fault : {A : Type 0} (topics : List (Topic A)) → IsReplyFault (only_item topics)
unfolding only_item
only_item-fault topics = bind-fault (only_one topics) _ (only_one-fault topics)
    (λ topic. bind-fault (same_topic topic.name) _ (other-fault (bytes_eq topic.name TOPIC) tt (pos 0) (pos 1))
    (λ named. only_one-fault topic.items))

commit_answer-fault : (id : ℤ) (part : ℕ) (bytes : List ℕ) → IsReplyFault (commit_answer id part bytes)
unfolding commit_answer
commit_answer-fault id part bytes = bind-fault (reply_of (commit_reply_reading bytes)) _ (reply-fault (commit_reply_reading bytes))
    (λ reply. bind-fault (same id reply.correlation) _ (other-fault (int_eq id reply.correlation) tt id reply.correlation)
    (λ a. bind-fault (only_item reply.topics) _ (only_item-fault reply.topics)
    (λ item. bind-fault (same (pos part) item.part) _ (other-fault (int_eq (pos part) item.part) tt (pos part) item.part)
    (λ b. accepted-fault (int_eq item.code NO_ERROR) item.code))))

fetch_answer-fault : (id : ℤ) (part : ℕ) (bytes : List ℕ) → IsReplyFault (fetch_answer id part bytes)
unfolding fetch_answer
fetch_answer-fault id part bytes = bind-fault (reply_of (fetch_reply_reading bytes)) _ (reply-fault (fetch_reply_reading bytes))
    (λ reply. bind-fault (same id reply.correlation) _ (other-fault (int_eq id reply.correlation) tt id reply.correlation)
    (λ a. bind-fault (only_item reply.topics) _ (only_item-fault reply.topics)
    (λ item. bind-fault (same (pos part) item.0) _ (other-fault (int_eq (pos part) item.0) tt (pos part) item.0)
    (λ b. bind-fault (accepted item.1.code) _ (accepted-fault (int_eq item.1.code NO_ERROR) item.1.code)
    (λ c. tt)))))

-- ---- what a broker's step gives

private-step : Result (List ℕ × Broker) Refusal → List ℕ × Broker → List ℕ × Broker
private-step (Ok step) other = step
private-step (Err refusal) other = other

-- a step that was made: the reply has a size, and is the spelling of its body
pub record IsStep (b b' : Broker) (r : Request) (reply : List ℕ) : Type 0 where
  pub short : length (reply_body b r) < 2 ^ 31
  pub is : reply ≡ frame_spelling (reply_body b r)
  pub after : b' ≡ after_request r b

step-of : (fits : Bool) (text reply : List ℕ) (after b' : Broker)
    → (cond {A = Result (List ℕ × Broker) Refusal} fits (Ok (text, after)) (Err TooLong)) ≡ Ok (reply, b')
    → (fits ≡ true) × (reply ≡ text) × (b' ≡ after)
unfolding private-step
step-of true text reply after b' is = (
  refl,
  sym (ap (λ s. (private-step s (text, after)).0) is),
  sym (ap (λ s. (private-step s (text, after)).1) is),
)
step-of false text reply after b' is = absurd (true≢false (ap is_err is))

is_step : (b b' : Broker) (r : Request) (reply : List ℕ) → step_of b (Ok r) ≡ Ok (reply, b') → IsStep b b' r reply
is_step b b' r reply is =
    let parts = step-of (nat_lt (length (reply_body b r)) (2 ^ 31)) (frame_spelling (reply_body b r)) reply (after_request r b) b' is in
    record { short = ltb-true _ _ parts.0; is = parts.1; after = parts.2 }

int_eq-same : (z : ℤ) → int_eq z z ≡ true
int_eq-same z = (Decides-int_eq z z).1 refl

-- ---- the codes are numbers of 16 bits

place-fits : (known long : Bool) → FitsSigned w16 (cond {A = ℤ} (not known) UNKNOWN_TOPIC_OR_PARTITION (cond long OFFSET_METADATA_TOO_LARGE NO_ERROR))
place-fits false long = fits_signed_from_abs w16 UNKNOWN_TOPIC_OR_PARTITION (omega arith)
place-fits true true = fits_signed_from_abs w16 OFFSET_METADATA_TOO_LARGE (omega arith)
place-fits true false = fits_signed_from_abs w16 NO_ERROR (omega arith)

member-fits : (no_member other : Bool) (code : ℤ) → FitsSigned w16 code
    → FitsSigned w16 (unwrap_or (cond {A = Option ℤ} no_member (Some UNKNOWN_MEMBER_ID) (cond {A = Option ℤ} other (Some ILLEGAL_GENERATION) None)) code)
member-fits true other code fits = fits_signed_from_abs w16 UNKNOWN_MEMBER_ID (omega arith)
member-fits false true code fits = fits_signed_from_abs w16 ILLEGAL_GENERATION (omega arith)
member-fits false false code fits = fits

refused-fits : (m : Option Membership) (member : List ℕ) (generation code : ℤ) → FitsSigned w16 code
    → FitsSigned w16 (unwrap_or (membership_refusal m member generation) code)
refused-fits None member generation code fits = fits
refused-fits (Some m) member generation code fits = member-fits
    (not (list_any (bytes_eq member) m.members)) (not (int_eq m.generation generation)) code fits

pub code-fits : (b : Broker) (r : CommitRequest) (name : List ℕ) (item : CommitItem) → FitsSigned w16 (item_code b r name item)
code-fits b r name item = refused-fits (membership_of b r.group) r.member r.generation _
    (place-fits (has_part b name item.part) (nat_lt MAX_METADATA_BYTES (length (metadata_text item.metadata))))

-- ---- a commit over a broker that tells what it stores

-- the code of the one item
the_code : Broker → ℤ → ℕ → Commit → ℤ
the_code b id part c = item_code b (commit_question id part c) TOPIC (item_of part c)

reply-is : (b b' : Broker) (id : ℤ) (part : ℕ) (c : Commit) (reply : List ℕ) → FitsSigned w32 id → part < 2 ^ 31
    → IsStep b b' (Commits (commit_question id part c)) reply
    → IsCommitReply reply (commit_reply_of b (commit_question id part c))
unfolding reply_body
reply-is b b' id part c reply id_fits part_fits step = record {
  correlation = id_fits;
  topics = record {
    few = omega arith;
    each = (
      record {
        name = topic-string;
        items = record {
          few = omega arith;
          each = (
            record {
              part = fits_signed_from_abs w32 (pos part) (omega arith);
              code = code-fits b (commit_question id part c) TOPIC (item_of part c);
            },
            tt,
          );
        };
      },
      tt,
    );
  };
  spelled = record { short = step.short; is = step.is };
}

-- what the reply answers is the item's code
answer-is : (b b' : Broker) (id : ℤ) (part : ℕ) (c : Commit) (reply : List ℕ) → FitsSigned w32 id → part < 2 ^ 31
    → IsStep b b' (Commits (commit_question id part c)) reply
    → commit_answer id part reply ≡ accepted (the_code b id part c)
unfolding commit_answer only_item the_code
answer-is b b' id part c reply id_fits part_fits step =
    rw (commit_reply-read reply _ (reply-is b b' id part c reply id_fits part_fits step), int_eq-same id, int_eq-same (pos part)) refl

-- the broker after the one item
after-one : (b : Broker) (id : ℤ) (part : ℕ) (c : Commit) → after_request (Commits (commit_question id part c)) b
    ≡ cond {A = Broker} (int_eq (the_code b id part c) NO_ERROR) (with_commit b part c) b
unfolding after_items the_code
after-one b id part c = refl

code-accepted : (b b' : Broker) (part : ℕ) (c : Commit) (code : ℤ) → code ≡ commit_code b part c
    → b' ≡ cond {A = Broker} (int_eq code NO_ERROR) (with_commit b part c) b → CommitGives b b' part c (accepted code)
code-accepted b b' part c code is after = elim (cases_Bool (int_eq code NO_ERROR)) [
  | inl zero_code ↦ rw zero_code (record {
    code = sym is ∙ (Decides-int_eq code NO_ERROR).0 zero_code;
    stored = after ∙ ap (λ (t : Bool). cond {A = Broker} t (with_commit b part c) b) zero_code;
  })
  | inr other ↦ rw other (record {
    is = is;
    other = λ same. true≢false (sym ((Decides-int_eq code NO_ERROR).1 same) ∙ other);
    same = after ∙ ap (λ (t : Bool). cond {A = Broker} t (with_commit b part c) b) other;
  })
]

commit-told : (b b' : Broker) (id : ℤ) (part : ℕ) (c : Commit) (frame reply : List ℕ) → FitsSigned w32 id → part < 2 ^ 31
    → IsCommitRequest frame (commit_question id part c) → broker_step b frame ≡ Ok (reply, b')
    → CommitGives b b' part c (commit_answer id part reply)
unfolding the_code
commit-told b b' id part c frame reply id_fits part_fits asked stepped =
    let read = commits-read frame (commit_question id part c) asked in
    let step = is_step b b' (Commits (commit_question id part c)) reply
    (subst (λ r. step_of b r ≡ Ok (reply, b')) read stepped) in
    subst (CommitGives b b' part c) (sym (answer-is b b' id part c reply id_fits part_fits step))
    (code-accepted b b' part c (the_code b id part c) refl (step.after ∙ after-one b id part c))

-- the same where the link failed
some-stored : (b : Broker) (id : ℤ) (part : ℕ) (c : Commit) (n : ℕ)
    → (after_some n (Commits (commit_question id part c)) b ≡ b)
    ⊎ (after_some n (Commits (commit_question id part c)) b ≡ after_request (Commits (commit_question id part c)) b)
unfolding after_items
some-stored b id part c zero = inl refl
some-stored b id part c (suc zero) = inr refl
some-stored b id part c (suc (suc n)) = inr refl

one-or-none : (b b' : Broker) (part : ℕ) (c : Commit) (code : ℤ) → code ≡ commit_code b part c
    → b' ≡ cond {A = Broker} (int_eq code NO_ERROR) (with_commit b part c) b → (b' ≡ b) ⊎ Accepts b b' part c
one-or-none b b' part c code is after = elim (cases_Bool (int_eq code NO_ERROR)) [
  | inl zero_code ↦ inr (record {
    code = sym is ∙ (Decides-int_eq code NO_ERROR).0 zero_code;
    stored = after ∙ ap (λ (t : Bool). cond {A = Broker} t (with_commit b part c) b) zero_code;
  })
  | inr other ↦ inl (after ∙ ap (λ (t : Bool). cond {A = Broker} t (with_commit b part c) b) other)
]

read-once : (r s : Request) → ◌≡◌ {A = Result Request WireFault} (Ok r) (Ok s) → r ≡ s
read-once r s is = cc

commit-may_store : (b b' : Broker) (id : ℤ) (part : ℕ) (c : Commit) (frame : List ℕ)
    → IsCommitRequest frame (commit_question id part c) → MayStore (request_reading frame) b b'
    → (b' ≡ b) ⊎ Accepts b b' part c
unfolding the_code
commit-may_store b b' id part c frame asked may =
    let read = commits-read frame (commit_question id part c) asked in
    let same_request : may.request ≡ Commits (commit_question id part c) =
    read-once may.request (Commits (commit_question id part c)) (sym may.is_read ∙ read) in
    let stored : b' ≡ after_some may.some (Commits (commit_question id part c)) b =
    may.stored ∙ ap (λ (r : Request). after_some may.some r b) same_request in
    elim (some-stored b id part c may.some) [
      | inl none ↦ inl (stored ∙ none)
      | inr all ↦ one-or-none b b' part c (the_code b id part c) refl (stored ∙ all ∙ after-one b id part c)
    ]

-- ---- a fetch over a broker that tells what it stores

some-same : (c d : Commit) → ◌≡◌ {A = Option Commit} (Some c) (Some d) → c ≡ d
some-same c d is = cc

-- what is found is storable
find-storable : (test : Stored → Bool) (xs : List Stored) (c : Commit) → AllByRecursion (λ s. IsStorable s.commit) xs
    → option_map (λ s. s.commit) (find test xs) ≡ Some c → IsStorable c
find-storable test [] c all is = cc
find-storable test (x ∷ xs) c all is = elim (cases_Bool (test x)) [
  | inl here ↦ subst IsStorable (some-same x.commit c (let found = rw here at is in found)) all.0
  | inr further ↦ find-storable test xs c all.1 (let found = rw further at is in found)
]

entry-is : (b : Broker) (known : Bool) (stored : Option Commit) → ((c : Commit) → stored ≡ Some c → IsStorable c) → (part : ℕ) → part < 2 ^ 31
    → IsEntry (pos part, cond {A = FetchEntry} known (entry_of stored) unknown_entry)
entry-is b false stored storable part below = record {
  part = fits_signed_from_abs w32 (pos part) (omega arith);
  position = record { fits = fits_signed_from_abs w64 (negsuc 0) (omega arith); above = 0; is = refl };
  metadata = member-string;
  code = fits_signed_from_abs w16 UNKNOWN_TOPIC_OR_PARTITION (omega arith);
}
entry-is b true None storable part below = record {
  part = fits_signed_from_abs w32 (pos part) (omega arith);
  position = record { fits = fits_signed_from_abs w64 (negsuc 0) (omega arith); above = 0; is = refl };
  metadata = member-string;
  code = fits_signed_from_abs w16 NO_ERROR (omega arith);
}
entry-is b true (Some c) storable part below = let is = storable c refl in record {
  part = fits_signed_from_abs w32 (pos part) (omega arith);
  position = record { fits = fits_signed_from_abs w64 (pos c.position) (omega (arith, is.position)); above = suc c.position; is = omega (arith, ints) };
  metadata = record { short = omega (arith, is.short); utf8 = is.utf8 };
  code = fits_signed_from_abs w16 NO_ERROR (omega arith);
}

-- the entry of the part
the_entry : Broker → ℕ → FetchEntry
the_entry b part = fetch_entry b GROUP TOPIC (pos part)

fetch_reply-is : (b b' : Broker) (id : ℤ) (part : ℕ) (reply : List ℕ) → FitsSigned w32 id → part < 2 ^ 31 → AreStorable b
    → IsStep b b' (Fetches (fetch_question id part)) reply
    → IsFetchReply reply (fetch_reply_of b (fetch_question id part))
unfolding reply_body
fetch_reply-is b b' id part reply id_fits part_fits storable step = record {
  correlation = id_fits;
  topics = record {
    few = omega arith;
    each = (
      record {
        name = topic-string;
        items = record {
          few = omega arith;
          each = (
            entry-is b (has_part b TOPIC (pos part)) (stored_for b GROUP part)
                (λ c is. find-storable (is_for GROUP part) b.commits c storable is) part part_fits,
            tt,
          );
        };
      },
      tt,
    );
  };
  spelled = record { short = step.short; is = step.is };
}

entry_answer : FetchEntry → Result Commit ClientFault
entry_answer entry = accepted entry.code >>= λ c. Ok (entry_commit entry)

fetch_answer-is : (b b' : Broker) (id : ℤ) (part : ℕ) (reply : List ℕ) → FitsSigned w32 id → part < 2 ^ 31 → AreStorable b
    → IsStep b b' (Fetches (fetch_question id part)) reply
    → fetch_answer id part reply ≡ entry_answer (the_entry b part)
unfolding fetch_answer only_item the_entry entry_answer
fetch_answer-is b b' id part reply id_fits part_fits storable step =
    rw (fetch_reply-read reply _ (fetch_reply-is b b' id part reply id_fits part_fits storable step), int_eq-same id, int_eq-same (pos part)) refl

none-below : (n : ℕ) → nat_lt n 0 ≡ false
none-below n = elim (cases_Bool (nat_lt n 0)) [
  | inl below ↦ let lt : n < 0 = ltb-true n 0 below in absurd (omega arith)
  | inr not_below ↦ not_below
]

entry-gives : (b : Broker) (part : ℕ) (known : Bool) (stored : Option Commit) → has_part b TOPIC (pos part) ≡ known → kept_for b part ≡ unwrap_or stored no_commit
    → FetchGives b part (entry_answer (cond {A = FetchEntry} known (entry_of stored) unknown_entry))
unfolding entry_answer
entry-gives b part false stored known_is stored_is = (known_is, refl)
entry-gives b part true None known_is stored_is = (known_is, sym stored_is)
entry-gives b part true (Some c) known_is stored_is = (known_is, rw (none-below c.position) (sym stored_is))

fetch-told : (b b' : Broker) (id : ℤ) (part : ℕ) (frame reply : List ℕ) → FitsSigned w32 id → part < 2 ^ 31 → AreStorable b
    → IsFetchRequest frame (fetch_question id part) → broker_step b frame ≡ Ok (reply, b')
    → FetchGives b part (fetch_answer id part reply) × (b' ≡ b)
unfolding the_entry
fetch-told b b' id part frame reply id_fits part_fits storable asked stepped =
    let read = fetches-read frame (fetch_question id part) asked in
    let step = is_step b b' (Fetches (fetch_question id part)) reply
    (subst (λ r. step_of b r ≡ Ok (reply, b')) read stepped) in (
      subst (FetchGives b part) (sym (fetch_answer-is b b' id part reply id_fits part_fits storable step))
          (entry-gives b part (has_part b TOPIC (pos part)) (stored_for b GROUP part) refl refl),
      step.after,
    )

fetch-may_store : (b b' : Broker) (id : ℤ) (part : ℕ) (frame : List ℕ)
    → IsFetchRequest frame (fetch_question id part) → MayStore (request_reading frame) b b' → b' ≡ b
fetch-may_store b b' id part frame asked may =
    let read = fetches-read frame (fetch_question id part) asked in
    let same_request : may.request ≡ Fetches (fetch_question id part) =
    read-once may.request (Fetches (fetch_question id part)) (sym may.is_read ∙ read) in
    may.stored ∙ ap (λ (r : Request). after_some may.some r b) same_request

-- ---- the only item is one of the items

bind-ok : {A B : Type 0} (r : Result A ClientFault) (f : A → Result B ClientFault) (y : B) → (r >>= f) ≡ Ok y
    → (x : A) × (r ≡ Ok x) × (f x ≡ Ok y)
bind-ok (Ok x) f y is = (x, refl, is)
bind-ok (Err fault) f y is = absurd cc

only_one-is : {A : Type 0} (P : A → Type 0) (xs : List A) (x : A) → AllByRecursion P xs → only_one xs ≡ Ok x → P x
only_one-is P [] x all is = absurd cc
only_one-is {A} P (y ∷ []) x all is = subst P (same-ok y x is) all.0
  where
    same-ok : (y x : A) → ◌≡◌ {A = Result A ClientFault} (Ok y) (Ok x) → y ≡ x
    same-ok y x is = cc
only_one-is P (y ∷ z ∷ xs) x all is = absurd cc

pub only_item-is : {A : Type 0} (P : A → Type 0) (topics : List (Topic A)) (x : A) → AreTopics P topics → only_item topics ≡ Ok x → P x
unfolding only_item
only_item-is P topics x are is =
    let topic = bind-ok (only_one topics) _ x is in
    let named = bind-ok (same_topic topic.0.name) _ x topic.2 in
    only_one-is P topic.0.items x (only_one-is (IsTopic P) topics topic.0 are.each topic.1).items.each named.2

-- ---- the calls of the client, by what their parts answered

pub commit-reads : (frame items : List ℕ) (q : CommitRequest) → frame ≡ items → IsCommitRequest items q → IsOk (request_reading frame)
commit-reads frame items q same asked = subst (λ (f : List ℕ). IsOk (request_reading f)) (sym same) (ap is_ok (commits-read items q asked))

pub fetch-reads : (frame items : List ℕ) (q : FetchRequest) → frame ≡ items → IsFetchRequest items q → IsOk (request_reading frame)
fetch-reads frame items q same asked = subst (λ (f : List ℕ). IsOk (request_reading f)) (sym same) (ap is_ok (fetches-read items q asked))

-- the frame did not come through
pub commit-unsent : (b b' : Broker) (id : ℤ) (part : ℕ) (c : Commit) (frame items : List ℕ) (r : Result (Unit {0}) ClientFault) (f : ClientFault)
    → frame ≡ items → IsCommitRequest items (commit_question id part c) → r ≡ Err f → (f ≡ LinkFailed) ⊎ (f ≡ NoMemory)
    → (f ≡ LinkFailed → MayStore (request_reading frame) b b') → (f ≡ NoMemory → b' ≡ b)
    → CommitGives b b' part c r
commit-unsent b b' id part c frame items r f same asked was (inl failed) may none =
    subst (CommitGives b b' part c) (sym (was ∙ ap (λ (x : ClientFault). Err x) failed))
    (commit-may_store b b' id part c frame (subst (λ (x : List ℕ). IsCommitRequest x (commit_question id part c)) (sym same) asked) (may failed))
commit-unsent b b' id part c frame items r f same asked was (inr memory) may none =
    subst (CommitGives b b' part c) (sym (was ∙ ap (λ (x : ClientFault). Err x) memory)) (none memory)

pub fetch-unsent : (b b' : Broker) (id : ℤ) (part : ℕ) (frame items : List ℕ) (f : ClientFault)
    → frame ≡ items → IsFetchRequest items (fetch_question id part) → (f ≡ LinkFailed) ⊎ (f ≡ NoMemory)
    → (f ≡ LinkFailed → MayStore (request_reading frame) b b') → (f ≡ NoMemory → b' ≡ b) → b' ≡ b
fetch-unsent b b' id part frame items f same asked (inl failed) may none =
    fetch-may_store b b' id part frame (subst (λ (x : List ℕ). IsFetchRequest x (fetch_question id part)) (sym same) asked) (may failed)
fetch-unsent b b' id part frame items f same asked (inr memory) may none = none memory

-- a reply came
pub commit-replied : (b b' : Broker) (id : ℤ) (part : ℕ) (c : Commit) (frame items text reply : List ℕ) (r : Result (Unit {0}) ClientFault)
    → part < 2 ^ 31 → frame ≡ items → IsCommitRequest items (commit_question id part c)
    → broker_step b frame ≡ Ok (reply, b') → text ≡ reply → r ≡ commit_answer id part text → CommitGives b b' part c r
commit-replied b b' id part c frame items text reply r part_fits same asked stepped same_text is =
    subst (CommitGives b b' part c) (sym (is ∙ ap (commit_answer id part) same_text))
    (commit-told b b' id part c frame reply asked.correlation part_fits
    (subst (λ (x : List ℕ). IsCommitRequest x (commit_question id part c)) (sym same) asked) stepped)

pub fetch-replied : (b b' : Broker) (id : ℤ) (part : ℕ) (frame items text reply : List ℕ) (r : Result Commit ClientFault)
    → part < 2 ^ 31 → AreStorable b → frame ≡ items → IsFetchRequest items (fetch_question id part)
    → broker_step b frame ≡ Ok (reply, b') → text ≡ reply → (r ≡ Err NoMemory) ⊎ (r ≡ fetch_answer id part text) → FetchGives b part r × (b' ≡ b)
fetch-replied b b' id part frame items text reply r part_fits storable same asked stepped same_text is =
    let told = fetch-told b b' id part frame reply asked.correlation part_fits storable
    (subst (λ (x : List ℕ). IsFetchRequest x (fetch_question id part)) (sym same) asked) stepped in (
      elim is [
        | inl memory ↦ subst (FetchGives b part) (sym memory) tt
        | inr answer ↦ subst (FetchGives b part) (sym (answer ∙ ap (fetch_answer id part) same_text)) told.0
      ],
      told.1,
    )

-- no answer says that the link failed
pub commit-cause : (id : ℤ) (part : ℕ) (text : List ℕ) (r : Result (Unit {0}) ClientFault) → r ≡ commit_answer id part text → r ≡ Err LinkFailed → ⊥
commit-cause id part text r is failed = subst IsReplyFault (sym is ∙ failed) (commit_answer-fault id part text)

memory-not-link : ◌≡◌ {A = Result Commit ClientFault} (Err NoMemory) (Err LinkFailed) → ⊥
memory-not-link is = cc

pub fetch-cause : (id : ℤ) (part : ℕ) (text : List ℕ) (r : Result Commit ClientFault) → (r ≡ Err NoMemory) ⊎ (r ≡ fetch_answer id part text) → r ≡ Err LinkFailed → ⊥
fetch-cause id part text r (inl memory) failed = memory-not-link (sym memory ∙ failed)
fetch-cause id part text r (inr is) failed = subst IsReplyFault (sym is ∙ failed) (fetch_answer-fault id part text)
