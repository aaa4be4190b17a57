-- The four messages: a frame is read as a message exactly where the message's grammar has it.
use Rattle.std.proofs.Common.{◌≡◌, ℕ, ◌<◌, ◌≤◌, ◌^◌, ℤ, pos, Bool, true, false, cond, ltb, eqb, List, [], ◌++◌, length, Option, Result, Ok, Err, refl, sym, ap, subst, ◌∙◌, arith}
use Rattle.std.specs.Prelude.{FitsSigned, IfOk, IsOkAnd}
use Rattle.std.specs.Int.{w16, w32, w64}
use Rattle.std.proofs.lemmas.Bool.{ltb-false, le-ltb, eqb-true}
use Rattle.std.proofs.lemmas.List.{append-nil, nil_from_length}
use Rattle.pc_model.specs.declared.api.TheConstants.{OFFSET_COMMIT, OFFSET_COMMIT_VERSION, OFFSET_FETCH, OFFSET_FETCH_VERSION}
use Rattle.pc_model.specs.declared.wire_fault.WireFault.{WireFault}
use Rattle.pc_model.specs.declared.wire_fault.WireFault.TheVariants.{Short, Trailing, BadKey, BadVersion}
use Rattle.pc_model.specs.Messages.{CommitRequest, CommitReply, FetchRequest, FetchReply, IsNullable, IsCommitItem, IsCommitCode, IsPart, IsEntry, IsFrame, IsCommitRequest, IsCommitReply, IsFetchRequest, IsFetchReply, int_spelling, header_spelling, frame_spelling, commit_item_spelling, commit_code_spelling, part_spelling, entry_spelling, commit_request_body, commit_reply_body, fetch_request_body, fetch_reply_body}
use Rattle.pc_model.specs.MessageReading.{◌>>=◌, size_at, body_at, whole, header_at, commit_item_at, commit_code_at, part_id_at, entry_at, commit_request_at, commit_reply_at, fetch_request_at, fetch_reply_at, frame_reading, commit_request_reading, commit_reply_reading, fetch_request_reading, fetch_reply_reading}
use Rattle.pc_model.specs.Broker.{Commits, Fetches, is_fetch, request_reading}
use Rattle.pc_offset_wire.specs.Writing.{IsCommitBody, IsCommitReplyBody, IsFetchBody, IsFetchReplyBody}
use Rattle.pc_offset_wire.specs.Reading.{Gives}
use Rattle.pc_offset_wire.proofs.ItemLemmas.{bind_ok}
use Rattle.pc_offset_wire.proofs.FormatLaws.{IsBytes, IsBytes-rest, IsFormat, wide32, wide64, int-format, size-format, string-format, nullable-format, field, fixed-field, last, format_of, guard_not, ok_is}
use Rattle.pc_offset_wire.proofs.ItemLaws.{commit_item-format, commit_code-format, part-format, entry-format, topics-format}

-- ---- the bodies

abbrev Header : Type 0
Header = ℤ × Option (List ℕ)

header-format : (key version : ℤ) → FitsSigned w16 key → FitsSigned w16 version → IsFormat (header_at key version) (λ h. header_spelling key version h.0 h.1) (λ h. FitsSigned w32 h.0 × IsNullable h.1)
unfolding header_at
header-format key version key_fits version_fits = format_of (header_at key version) (λ h. header_spelling key version h.0 h.1) _ (λ h. FitsSigned w32 h.0 × IsNullable h.1)
    (fixed-field key BadKey key_fits _ _ _ (λ _. Unit {0})
    (fixed-field version BadVersion version_fits _ _ _ (λ _. Unit {0})
    (field (int-format w32 wide32) (λ (h : Header). h.0) _ _ _ (λ _. Unit {0})
    (λ correlation. last nullable-format (λ (h : Header). h.1) (λ client. (correlation, client))
    (λ h. Unit {0} × (h.0 ≡ correlation)) (λ m. ((tt, refl), refl)) (λ h has. rw (← has.1) refl)))))
    (λ h whole. whole)
    (λ h holds. holds)

commit-header : IsFormat (header_at OFFSET_COMMIT OFFSET_COMMIT_VERSION) (λ h. header_spelling OFFSET_COMMIT OFFSET_COMMIT_VERSION h.0 h.1) (λ h. FitsSigned w32 h.0 × IsNullable h.1)
commit-header = header-format OFFSET_COMMIT OFFSET_COMMIT_VERSION (record { sfits = omega arith }) (record { sfits = omega arith })

fetch-header : IsFormat (header_at OFFSET_FETCH OFFSET_FETCH_VERSION) (λ h. header_spelling OFFSET_FETCH OFFSET_FETCH_VERSION h.0 h.1) (λ h. FitsSigned w32 h.0 × IsNullable h.1)
fetch-header = header-format OFFSET_FETCH OFFSET_FETCH_VERSION (record { sfits = omega arith }) (record { sfits = omega arith })

commit_request-format : IsFormat commit_request_at commit_request_body IsCommitBody
unfolding commit_request_at
commit_request-format = format_of commit_request_at commit_request_body _ IsCommitBody
    (field commit-header (λ (r : CommitRequest). (r.correlation, r.client)) _ _ _ (λ _. Unit {0})
    (λ header. field string-format (λ (r : CommitRequest). r.group) _ _ _ (λ r. Unit {0} × ((r.correlation, r.client) ≡ header))
    (λ group. field (int-format w32 wide32) (λ (r : CommitRequest). r.generation) _ _ _ (λ r. (Unit {0} × ((r.correlation, r.client) ≡ header)) × (r.group ≡ group))
    (λ generation. field string-format (λ (r : CommitRequest). r.member) _ _ _ (λ r. ((Unit {0} × ((r.correlation, r.client) ≡ header)) × (r.group ≡ group)) × (r.generation ≡ generation))
    (λ member. field (int-format w64 wide64) (λ (r : CommitRequest). r.retention) _ _ _ (λ r. (((Unit {0} × ((r.correlation, r.client) ≡ header)) × (r.group ≡ group)) × (r.generation ≡ generation)) × (r.member ≡ member))
    (λ retention. last (topics-format commit_item_at commit_item_spelling IsCommitItem commit_item-format) (λ (r : CommitRequest). r.topics)
    (λ topics. record { correlation = header.0; client = header.1; group = group; generation = generation; member = member; retention = retention; topics = topics })
    (λ r. ((((Unit {0} × ((r.correlation, r.client) ≡ header)) × (r.group ≡ group)) × (r.generation ≡ generation)) × (r.member ≡ member)) × (r.retention ≡ retention))
    (λ m. ((((((tt, refl), refl), refl), refl), refl), refl))
    (λ r has. rw (← has.0.0.0.0.1, ← has.0.0.0.1, ← has.0.0.1, ← has.0.1, ← has.1) refl)))))))
    (λ r whole. ((whole.correlation, whole.client), (whole.group, (whole.generation, (whole.member, (whole.retention, whole.topics))))))
    (λ r holds. record {
      correlation = holds.0.0;
      client = holds.0.1;
      group = holds.1.0;
      generation = holds.1.1.0;
      member = holds.1.1.1.0;
      retention = holds.1.1.1.1.0;
      topics = holds.1.1.1.1.1;
    })

commit_reply-format : IsFormat commit_reply_at commit_reply_body IsCommitReplyBody
unfolding commit_reply_at
commit_reply-format = format_of commit_reply_at commit_reply_body _ IsCommitReplyBody
    (field (int-format w32 wide32) (λ (r : CommitReply). r.correlation) _ _ _ (λ _. Unit {0})
    (λ correlation. last (topics-format commit_code_at commit_code_spelling IsCommitCode commit_code-format) (λ (r : CommitReply). r.topics)
    (λ topics. record { correlation = correlation; topics = topics })
    (λ r. Unit {0} × (r.correlation ≡ correlation)) (λ m. ((tt, refl), refl)) (λ r has. rw (← has.1) refl)))
    (λ r whole. (whole.correlation, whole.topics))
    (λ r holds. record { correlation = holds.0; topics = holds.1 })

fetch_request-format : IsFormat fetch_request_at fetch_request_body IsFetchBody
unfolding fetch_request_at
fetch_request-format = format_of fetch_request_at fetch_request_body _ IsFetchBody
    (field fetch-header (λ (r : FetchRequest). (r.correlation, r.client)) _ _ _ (λ _. Unit {0})
    (λ header. field string-format (λ (r : FetchRequest). r.group) _ _ _ (λ r. Unit {0} × ((r.correlation, r.client) ≡ header))
    (λ group. last (topics-format part_id_at part_spelling IsPart part-format) (λ (r : FetchRequest). r.topics)
    (λ topics. record { correlation = header.0; client = header.1; group = group; topics = topics })
    (λ r. (Unit {0} × ((r.correlation, r.client) ≡ header)) × (r.group ≡ group)) (λ m. (((tt, refl), refl), refl)) (λ r has. rw (← has.0.1, ← has.1) refl))))
    (λ r whole. ((whole.correlation, whole.client), (whole.group, whole.topics)))
    (λ r holds. record { correlation = holds.0.0; client = holds.0.1; group = holds.1.0; topics = holds.1.1 })

fetch_reply-format : IsFormat fetch_reply_at fetch_reply_body IsFetchReplyBody
unfolding fetch_reply_at
fetch_reply-format = format_of fetch_reply_at fetch_reply_body _ IsFetchReplyBody
    (field (int-format w32 wide32) (λ (r : FetchReply). r.correlation) _ _ _ (λ _. Unit {0})
    (λ correlation. last (topics-format entry_at entry_spelling IsEntry entry-format) (λ (r : FetchReply). r.topics)
    (λ topics. record { correlation = correlation; topics = topics })
    (λ r. Unit {0} × (r.correlation ≡ correlation)) (λ m. ((tt, refl), refl)) (λ r has. rw (← has.1) refl)))
    (λ r whole. (whole.correlation, whole.topics))
    (λ r holds. record { correlation = holds.0; topics = holds.1 })

-- ---- the frames

module _ {A : Type 0} (at : List ℕ → Result (A × List ℕ) WireFault) (body : A → List ℕ) (IsBody : A → Type 0) (format : IsFormat at body IsBody) where
  body-read : (text : List ℕ) → length text < 2 ^ 31 → body_at (frame_spelling text) ≡ Ok text
  unfolding body_at
  body-read text short =
      let size = (size-format w32 wide32).read (length text) text (record { sfits = short }) in
      let same : ltb (length text) (length text) ≡ false = le-ltb _ _ (omega arith) in
      rw (size, same) refl

  -- a message's frame is read as the message
  frame-read : (frame : List ℕ) (m : A) → IsBody m → IsFrame frame (body m) → frame_reading at frame ≡ Ok m
  unfolding frame_reading
  frame-read frame m holds is =
      let read : at (body m) ≡ Ok (m, []) = ap at (sym (append-nil (body m))) ∙ format.read m [] holds in
      ap (frame_reading at) is.is ∙ rw (body-read (body m) is.short, read) refl

  body-only : (frame text : List ℕ) → IsBytes frame → body_at frame ≡ Ok text → IsFrame frame text × IsBytes text
  unfolding body_at
  body-only frame text fits e =
      let a = bind_ok (size_at w32 frame) (λ n. cond (ltb (length n.1) n.0) (Err Short) (cond (ltb n.0 (length n.1)) (Err Trailing) (Ok n.1))) text e in
      let head = (size-format w32 wide32).only frame a.0.0 a.0.1 fits a.1 in
      let parts = counted (ltb (length a.0.1) a.0.0) (ltb a.0.0 (length a.0.1)) a.0.1 text a.2 in
      let low : a.0.0 ≤ length a.0.1 = ltb-false _ _ parts.0 in
      let high : length a.0.1 ≤ a.0.0 = ltb-false _ _ parts.1 in
      let equal : length a.0.1 ≡ a.0.0 = omega arith in
      let count : length text ≡ a.0.0 = ap length (sym parts.2) ∙ equal in
      let same : frame ≡ frame_spelling text = head.0 ∙ ap (λ (x : List ℕ). int_spelling w32 (pos a.0.0) ++ x) parts.2 ∙ ap (λ (n : ℕ). int_spelling w32 (pos n) ++ text) (sym count) in
      (record { short = subst (λ (n : ℕ). n < 2 ^ 31) (sym count) head.1.sfits; is = same }, subst IsBytes parts.2 (IsBytes-rest (int_spelling w32 (pos a.0.0)) a.0.1 (subst IsBytes head.0 fits)))
    where
      counted : (s t : Bool) (x y : List ℕ) → ◌≡◌ {A = Result (List ℕ) WireFault} (cond s (Err Short) (cond t (Err Trailing) (Ok x))) (Ok y) → (s ≡ false) × (t ≡ false) × (x ≡ y)
      counted true t x y e = absurd cc
      counted false true x y e = absurd cc
      counted false false x y e = (refl, refl, ok_is x y e)

  -- what is read has the message's frame
  frame-only : (frame : List ℕ) (m : A) → IsBytes frame → frame_reading at frame ≡ Ok m → IsBody m × IsFrame frame (body m)
  unfolding frame_reading
  frame-only frame m fits e =
      let a = bind_ok (body_at frame) (λ text. at text >>= whole) m e in
      let b = bind_ok (at a.0) whole m a.2 in
      let framed = body-only frame a.0 fits a.1 in
      let found = format.only a.0 b.0.0 b.0.1 framed.1 b.1 in
      let g = guard_not (eqb (length b.0.1) 0) Trailing b.0.0 m b.2 in
      let ended : b.0.1 ≡ [] = nil_from_length b.0.1 (eqb-true _ _ g.0) in
      let text : a.0 ≡ body m = found.0 ∙ ap (λ (x : List ℕ). body b.0.0 ++ x) ended ∙ append-nil (body b.0.0) ∙ ap body g.1 in
      (subst IsBody g.1 found.1, subst (IsFrame frame) text framed.0)

-- ---- the messages

-- a frame of the grammar is read as its message
pub commit_request-read : (frame : List ℕ) (m : CommitRequest) → IsCommitRequest frame m → commit_request_reading frame ≡ Ok m
commit_request-read frame m is = frame-read commit_request_at commit_request_body IsCommitBody commit_request-format frame m (record {
  correlation = is.correlation;
  client = is.client;
  group = is.group;
  generation = is.generation;
  member = is.member;
  retention = is.retention;
  topics = is.topics;
}) is.spelled

-- what is read of bytes is of the grammar
pub commit_request-only : (frame : List ℕ) (m : CommitRequest) → IsBytes frame → commit_request_reading frame ≡ Ok m → IsCommitRequest frame m
commit_request-only frame m fits e =
    let is = frame-only commit_request_at commit_request_body IsCommitBody commit_request-format frame m fits e in
    record {
      correlation = is.0.correlation;
      client = is.0.client;
      group = is.0.group;
      generation = is.0.generation;
      member = is.0.member;
      retention = is.0.retention;
      topics = is.0.topics;
      spelled = is.1;
    }

pub commit_reply-read : (frame : List ℕ) (m : CommitReply) → IsCommitReply frame m → commit_reply_reading frame ≡ Ok m
commit_reply-read frame m is = frame-read commit_reply_at commit_reply_body IsCommitReplyBody commit_reply-format frame m
    (record { correlation = is.correlation; topics = is.topics }) is.spelled

pub commit_reply-only : (frame : List ℕ) (m : CommitReply) → IsBytes frame → commit_reply_reading frame ≡ Ok m → IsCommitReply frame m
commit_reply-only frame m fits e =
    let is = frame-only commit_reply_at commit_reply_body IsCommitReplyBody commit_reply-format frame m fits e in
    record { correlation = is.0.correlation; topics = is.0.topics; spelled = is.1 }

pub fetch_request-read : (frame : List ℕ) (m : FetchRequest) → IsFetchRequest frame m → fetch_request_reading frame ≡ Ok m
fetch_request-read frame m is = frame-read fetch_request_at fetch_request_body IsFetchBody fetch_request-format frame m
    (record { correlation = is.correlation; client = is.client; group = is.group; topics = is.topics }) is.spelled

pub fetch_request-only : (frame : List ℕ) (m : FetchRequest) → IsBytes frame → fetch_request_reading frame ≡ Ok m → IsFetchRequest frame m
fetch_request-only frame m fits e =
    let is = frame-only fetch_request_at fetch_request_body IsFetchBody fetch_request-format frame m fits e in
    record { correlation = is.0.correlation; client = is.0.client; group = is.0.group; topics = is.0.topics; spelled = is.1 }

pub fetch_reply-read : (frame : List ℕ) (m : FetchReply) → IsFetchReply frame m → fetch_reply_reading frame ≡ Ok m
fetch_reply-read frame m is = frame-read fetch_reply_at fetch_reply_body IsFetchReplyBody fetch_reply-format frame m
    (record { correlation = is.correlation; topics = is.topics }) is.spelled

pub fetch_reply-only : (frame : List ℕ) (m : FetchReply) → IsBytes frame → fetch_reply_reading frame ≡ Ok m → IsFetchReply frame m
fetch_reply-only frame m fits e =
    let is = frame-only fetch_reply_at fetch_reply_body IsFetchReplyBody fetch_reply-format frame m fits e in
    record { correlation = is.0.correlation; topics = is.0.topics; spelled = is.1 }

-- ---- which of the two a request is

is_fetch-commit : (m : CommitRequest) → is_fetch (frame_spelling (commit_request_body m)) ≡ false
is_fetch-commit m = refl

is_fetch-fetch : (m : FetchRequest) → is_fetch (frame_spelling (fetch_request_body m)) ≡ true
is_fetch-fetch m = refl

-- a frame of a commit request is read as a commit
pub commits-read : (frame : List ℕ) (m : CommitRequest) → IsCommitRequest frame m → request_reading frame ≡ Ok (Commits m)
unfolding request_reading
commits-read frame m is =
    let key : is_fetch frame ≡ false = ap is_fetch is.spelled.is ∙ is_fetch-commit m in
    rw (key, commit_request-read frame m is) refl

-- a frame of a fetch request is read as a fetch
pub fetches-read : (frame : List ℕ) (m : FetchRequest) → IsFetchRequest frame m → request_reading frame ≡ Ok (Fetches m)
unfolding request_reading
fetches-read frame m is =
    let key : is_fetch frame ≡ true = ap is_fetch is.spelled.is ∙ is_fetch-fetch m in
    rw (key, fetch_request-read frame m is) refl

-- ---- what a reader answers

-- it is of the grammar, where the reading is
pub found_by : {X Y : Type 0} (view : X → Y) (result : Result X WireFault) (reading : Result Y WireFault) (Is : Y → Type 0) → Gives view result reading → ((m : Y) → reading ≡ Ok m → Is m) → IfOk result (λ x. Is (view x))
found_by view (Ok x) reading Is gives law = law (view x) gives
found_by view (Err fault) reading Is gives law = tt

-- it is the one that is read
pub only_by : {X Y : Type 0} (view : X → Y) (result : Result X WireFault) (reading : Result Y WireFault) (m : Y) → Gives view result reading → reading ≡ Ok m → IsOkAnd result (λ x. view x ≡ m)
only_by {X} {Y} view (Ok x) reading m gives e = ok_is (view x) m (sym gives ∙ e)
only_by {X} {Y} view (Err fault) reading m gives e = unread fault m (sym gives ∙ e)
  where
    unread : (fault : WireFault) (m : Y) → ◌≡◌ {A = Result Y WireFault} (Err fault) (Ok m) → ⊥
    unread fault m e = absurd cc
