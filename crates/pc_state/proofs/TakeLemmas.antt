-- One record after the other is taken into a part.
use Rattle.std.proofs.Common.{◌≡◌, ℕ, zero, suc, ◌-◌, List, [], ◌∷◌, ◌++◌, map, take, drop, length, refl, sym, ap, ◌∙◌}
use Rattle.std.specs.Prelude.{filter, slice_get, unwrap_or}
use Rattle.std.specs.Option.{option_map_or}
use Rattle.std.proofs.lemmas.List.{append_assoc, append-nil, length-map, map-append}
use Rattle.pc_model.specs.Record.{Record}
use Rattle.pc_broker_log.specs.Logs.{PolledView}
use Rattle.pc_partition.specs.Window.{Window}
use Rattle.pc_shards.specs.Entries.{Entry}
use Rattle.pc_state.specs.Polls.{is_open_in, last_offset, new_entries}
use Rattle.pc_state.proofs.PolledLemmas.{filter-append}

-- Some records were taken of those that a poll has to take: these are their offsets, and those that
-- are incomplete or new in a window are the entries behind those that were there.
pub record IsTaking (w : Window) (first now : PolledView) (offsets : List ℕ) (old new : List Entry) : Type 0 where
  pub taken : List Record
  pub left : first.left ≡ taken ++ now.left
  pub log : first.log ≡ taken ++ now.log
  pub offsets_are : offsets ≡ map (λ r. r.offset) taken
  pub entries : new ≡ old ++ new_entries (filter (λ r. is_open_in w r.offset) taken)

pub taking-start : (w : Window) (first : PolledView) (es : List Entry) → IsTaking w first first [] es es
taking-start w first es = record {
  taken = [];
  left = refl;
  log = refl;
  offsets_are = refl;
  entries = sym (append-nil es);
}

more-entries : (w : Window) (taken : List Record) (r : Record) (old : List Entry)
    → (old ++ new_entries (filter (λ r. is_open_in w r.offset) taken))
    ++ new_entries (filter (λ r. is_open_in w r.offset) (r ∷ []))
    ≡ old ++ new_entries (filter (λ r. is_open_in w r.offset) (taken ++ r ∷ []))
more-entries w taken r old =
    append_assoc old (new_entries (filter (λ r. is_open_in w r.offset) taken))
    (new_entries (filter (λ r. is_open_in w r.offset) (r ∷ [])))
    ∙ ap (λ (es : List Entry). old ++ es)
    (sym (ap new_entries (filter-append (λ r. is_open_in w r.offset) taken (r ∷ []))
    ∙ map-append _ (filter (λ r. is_open_in w r.offset) taken)
    (filter (λ r. is_open_in w r.offset) (r ∷ []))))

-- one more is taken
pub taking-more : (w : Window) (first now next : PolledView) (offsets offsets' : List ℕ)
    (old mid new : List Entry) (r : Record) → IsTaking w first now offsets old mid
    → now.left ≡ r ∷ next.left → now.log ≡ r ∷ next.log → offsets' ≡ offsets ++ r.offset ∷ []
    → new ≡ mid ++ new_entries (filter (λ r. is_open_in w r.offset) (r ∷ []))
    → IsTaking w first next offsets' old new
taking-more w first now next offsets offsets' old mid new r taking left log more added = record {
  taken = taking.taken ++ r ∷ [];
  left = taking.left ∙ ap (λ (rs : List Record). taking.taken ++ rs) left
      ∙ sym (append_assoc taking.taken (r ∷ []) next.left);
  log = taking.log ∙ ap (λ (rs : List Record). taking.taken ++ rs) log
      ∙ sym (append_assoc taking.taken (r ∷ []) next.log);
  offsets_are = more ∙ ap (λ (os : List ℕ). os ++ r.offset ∷ []) taking.offsets_are
      ∙ sym (map-append (λ (r : Record). r.offset) taking.taken (r ∷ []));
  entries = added
      ∙ ap (λ (es : List Entry). es ++ new_entries (filter (λ r. is_open_in w r.offset) (r ∷ [])))
      taking.entries
      ∙ more-entries w taking.taken r old;
}

-- ---- when all are taken

drop-front : (xs ys : List Record) → drop (length xs) (xs ++ ys) ≡ ys
drop-front [] ys = refl
drop-front (x ∷ xs) ys = drop-front xs ys

pub take-front : (xs ys : List Entry) → take (length xs) (xs ++ ys) ≡ xs
take-front [] [] = refl
take-front [] (y ∷ ys) = refl
take-front (x ∷ xs) ys = ap (λ (es : List Entry). x ∷ es) (take-front xs ys)

module _ (w : Window) (first now : PolledView) (offsets : List ℕ) (old new : List Entry)
    (taking : IsTaking w first now offsets old new) where
  pub taking-front : take (length old) new ≡ old
  taking-front = ap (take (length old)) taking.entries
      ∙ take-front old (new_entries (filter (λ r. is_open_in w r.offset) taking.taken))

  module _ (none : now.left ≡ []) where
    all-taken : taking.taken ≡ first.left
    all-taken = sym (taking.left ∙ ap (λ (rs : List Record). taking.taken ++ rs) none
        ∙ append-nil taking.taken)

    pub taking-offsets : offsets ≡ map (λ r. r.offset) first.left
    taking-offsets = taking.offsets_are ∙ ap (λ (rs : List Record). map (λ r. r.offset) rs) all-taken

    pub taking-entries : new ≡ old ++ new_entries (filter (λ r. is_open_in w r.offset) first.left)
    taking-entries = taking.entries
        ∙ ap (λ (rs : List Record). old ++ new_entries (filter (λ r. is_open_in w r.offset) rs)) all-taken

    pub taking-log : now.log ≡ drop (length (map (λ (r : Record). r.offset) first.left)) first.log
    taking-log = sym (ap (λ (n : ℕ). drop n first.log)
        (length-map {B = ℕ} first.left (λ r. r.offset) ∙ ap length (sym all-taken))
        ∙ ap (drop (length taking.taken)) taking.log ∙ drop-front taking.taken now.log)

-- the last offset is that of the last record
offset-at : (n : ℕ) (rs : List Record)
    → unwrap_or (slice_get (map (λ r. r.offset) rs) n) 0
    ≡ option_map_or (λ (r : Record). r.offset) (slice_get rs n) 0
offset-at n [] = refl
offset-at zero (r ∷ rs) = refl
offset-at (suc n) (r ∷ rs) = offset-at n rs

pub last-offsets : (rs : List Record) (offsets : List ℕ) → offsets ≡ map (λ r. r.offset) rs
    → unwrap_or (slice_get offsets (length offsets - 1)) 0 ≡ last_offset rs
last-offsets rs offsets is =
    ap (λ (os : List ℕ). unwrap_or (slice_get os (length os - 1)) 0) is
    ∙ ap (λ (n : ℕ). unwrap_or (slice_get (map (λ (r : Record). r.offset) rs) (n - 1)) 0)
    (length-map {B = ℕ} rs (λ r. r.offset))
    ∙ offset-at (length rs - 1) rs
