-- The items of the arrays: what is spelled is read, and what is read was spelled.
use Rattle.std.proofs.Common.{◌≡◌, ℕ, ℤ, pos, negsuc, List, Result, refl}
use Rattle.std.specs.Int.{w16, w32}
use Rattle.pc_model.specs.declared.wire_fault.WireFault.{WireFault}
use Rattle.pc_model.specs.Messages.{CommitItem, CommitCode, FetchEntry, Topic, commit_item_spelling, commit_code_spelling, part_spelling, entry_spelling, topic_spelling, topics_spelling, AreTopics, IsTopic, IsCommitItem, IsCommitCode, IsPart, IsEntry}
use Rattle.pc_model.specs.MessageReading.{commit_item_at, commit_code_at, part_id_at, entry_at, topic_at, topics_at}
use Rattle.pc_offset_wire.proofs.FormatLaws.{IsFormat, wide16, wide32, int-format, string-format, nullable-format, array-format, position-format, field, last, format_of}

pub commit_item-format : IsFormat commit_item_at commit_item_spelling IsCommitItem
unfolding commit_item_at
commit_item-format = format_of commit_item_at commit_item_spelling _ IsCommitItem
    (field (int-format w32 wide32) (λ (b : CommitItem). b.part) _ _ _ (λ _. Unit {0})
    (λ part. field (position-format (pos 0)) (λ (b : CommitItem). b.position) _ _ _ (λ b. Unit {0} × (b.part ≡ part))
    (λ position. last nullable-format (λ (b : CommitItem). b.metadata) (λ metadata. record { part = part; position = position; metadata = metadata })
    (λ b. (Unit {0} × (b.part ≡ part)) × (b.position ≡ position)) (λ m. (((tt, refl), refl), refl)) (λ b h. rw (← h.0.1, ← h.1) refl))))
    (λ b whole. (whole.part, (whole.position, whole.metadata)))
    (λ b holds. record { part = holds.0; position = holds.1.0; metadata = holds.1.1 })

pub commit_code-format : IsFormat commit_code_at commit_code_spelling IsCommitCode
unfolding commit_code_at
commit_code-format = format_of commit_code_at commit_code_spelling _ IsCommitCode
    (field (int-format w32 wide32) (λ (b : CommitCode). b.part) _ _ _ (λ _. Unit {0})
    (λ part. last (int-format w16 wide16) (λ (b : CommitCode). b.code) (λ code. record { part = part; code = code })
    (λ b. Unit {0} × (b.part ≡ part)) (λ m. ((tt, refl), refl)) (λ b h. rw (← h.1) refl)))
    (λ b whole. (whole.part, whole.code))
    (λ b holds. record { part = holds.0; code = holds.1 })

pub part-format : IsFormat part_id_at part_spelling IsPart
unfolding part_id_at
part-format = int-format w32 wide32

pub entry-format : IsFormat entry_at entry_spelling IsEntry
unfolding entry_at
entry-format = format_of entry_at entry_spelling _ IsEntry
    (field (int-format w32 wide32) (λ (b : ℤ × FetchEntry). b.0) _ _ _ (λ _. Unit {0})
    (λ part. field (position-format (negsuc 0)) (λ (b : ℤ × FetchEntry). b.1.position) _ _ _ (λ b. Unit {0} × (b.0 ≡ part))
    (λ position. field nullable-format (λ (b : ℤ × FetchEntry). b.1.metadata) _ _ _ (λ b. (Unit {0} × (b.0 ≡ part)) × (b.1.position ≡ position))
    (λ metadata. last (int-format w16 wide16) (λ (b : ℤ × FetchEntry). b.1.code) (λ code. (part, record { position = position; metadata = metadata; code = code }))
    (λ b. ((Unit {0} × (b.0 ≡ part)) × (b.1.position ≡ position)) × (b.1.metadata ≡ metadata)) (λ m. ((((tt, refl), refl), refl), refl)) (λ b h. rw (← h.0.0.1, ← h.0.1, ← h.1) refl)))))
    (λ b whole. (whole.part, (whole.position, (whole.metadata, whole.code))))
    (λ b holds. record { part = holds.0; position = holds.1.0; metadata = holds.1.1.0; code = holds.1.1.1 })

topic-format : {A : Type 0} (at : List ℕ → Result (A × List ℕ) WireFault) (spelled : A → List ℕ) (IsItem : A → Type 0) → IsFormat at spelled IsItem → IsFormat (topic_at at) (topic_spelling spelled) (IsTopic IsItem)
unfolding topic_at
topic-format {A} at spelled IsItem item = format_of (topic_at at) (topic_spelling spelled) _ (IsTopic IsItem)
    (field string-format (λ (b : Topic A). b.name) _ _ _ (λ _. Unit {0})
    (λ name. last (array-format at spelled IsItem item) (λ (b : Topic A). b.items) (λ items. record { name = name; items = items })
    (λ b. Unit {0} × (b.name ≡ name)) (λ m. ((tt, refl), refl)) (λ b h. rw (← h.1) refl)))
    (λ b whole. (whole.name, whole.items))
    (λ b holds. record { name = holds.0; items = holds.1 })

-- an array of topics
pub topics-format : {A : Type 0} (at : List ℕ → Result (A × List ℕ) WireFault) (spelled : A → List ℕ) (IsItem : A → Type 0) → IsFormat at spelled IsItem → IsFormat (topics_at at) (topics_spelling spelled) (AreTopics IsItem)
topics-format at spelled IsItem item = array-format (topic_at at) (topic_spelling spelled) (IsTopic IsItem) (topic-format at spelled IsItem item)
