-- The starting commits, one after the other, and a plan that is carried out.
use Rattle.std.proofs.Common.{◌≡◌, ◌∙◌, ◌⊎◌, ◌≤◌, ◌<◌, ◌+◌, inl, inr, ℕ, zero, suc, Bool, true, false, cond, List, [], ◌∷◌, ◌++◌, length, take, drop, Option, Some, None, Ok, Err, refl, ap, sym, subst, arith}
use Rattle.std.specs.Prelude.{IsTrue, is_none, nat_le, ◌&&◌}
use Rattle.std.specs.List.{All, slice_index_or}
use Rattle.std.specs.Option.{option_or}
use Rattle.std.proofs.lemmas.Bool.{leb-true}
use Rattle.std.proofs.lemmas.List.{take_all}
use Rattle.pc_model.specs.Numbers.{first_some}
use Rattle.pc_model.specs.Ranges.{delays_fault, number_fault, range_fault, range_of, rules_fault, settings_fault, start_fault}
use Rattle.pc_model.specs.declared.outcome.Start.{Start}
use Rattle.pc_model.specs.declared.setup.Settings.{Settings}
use Rattle.pc_model.specs.declared.setup.Setup.{Setup}
use Rattle.pc_model.specs.declared.setup.SetupFault.{SetupFault}
use Rattle.pc_model.specs.declared.setup.SetupFault.TheVariants.{OutOfRange}
use Rattle.pc_model.specs.declared.setup.SetupField.{SetupField}
use Rattle.pc_model.specs.declared.setup.SetupField.TheVariants.{StartPart, StartPosition, StartMap, Starts}
use Rattle.pc_offset_client.specs.declared.fault.ClientFault.{ClientFault}
use Rattle.pc_offset_client.specs.declared.fault.ClientFault.TheVariants as client
use Rattle.pc_play.specs.Play.{IsAborted, Moment}
use Rattle.parcon.specs.Starts.{IsSendable, Sends, SendsStart, SendsStarts, Sent}

-- ---- starts in range

either : {A : Type 0} (a b : Option A) → option_or a b ≡ None → (a ≡ None) × (b ≡ None)
either None b is = (refl, is)
either (Some x) b is = cc

in-range : (field : SetupField) (value : ℕ) → range_fault field value ≡ None
    → value ≤ (range_of field).1
in-range field value is =
    by (nat_le (range_of field).0 value) (nat_le value (range_of field).1) refl is
  where
    by : (least most : Bool) → nat_le value (range_of field).1 ≡ most
        → cond (least && most) None (Some
        (OutOfRange field (range_of field).0 (range_of field).1)) ≡ None
        → value ≤ (range_of field).1
    by least true fits none = leb-true value (range_of field).1 fits
    by true false fits none = cc
    by false false fits none = cc

sendable : (s : Start) → start_fault s ≡ None → IsSendable s
sendable s none =
    let part = either (range_fault StartPart s.part) _ none in
    let position = either (range_fault StartPosition s.position) _ part.1 in
    let part_in = in-range StartPart s.part part.0 in
    let position_in = in-range StartPosition s.position position.0 in
    let map_in = in-range StartMap (length s.map) position.1 in
    record {
      part = omega (arith, part_in);
      position = omega (arith, position_in);
      map = omega (arith, map_in);
    }

each-sendable : (starts : List Start) → first_some start_fault starts ≡ None → All IsSendable starts
each-sendable [] none k d below = absurd (omega arith)
each-sendable (s ∷ starts) none zero d below =
    sendable s (either (start_fault s) (first_some start_fault starts) none).0
each-sendable (s ∷ starts) none (suc k) d below =
    each-sendable starts (either (start_fault s) (first_some start_fault starts) none).1 k d (omega
    arith)

no-fault : (o : Option SetupFault) → IsTrue (is_none o) → o ≡ None
no-fault None is = refl
no-fault (Some x) is = cc

-- the starts of a setup fit into frames
pub starts-sendable : (setup : Setup) → All IsSendable setup.settings.starts
unfolding settings_fault
starts-sendable setup =
    let s : Settings = setup.settings in
    let none = no-fault (settings_fault s) setup.in_range in
    let numbers = either (number_fault s) _ none in
    let delays = either (delays_fault s.delays) _ numbers.1 in
    let rules = either (rules_fault s.rules.fails) _ delays.1 in
    let count = either (range_fault Starts (length s.starts)) _ rules.1 in
    each-sendable s.starts (either (first_some start_fault s.starts) _ count.1).0

-- ---- one start after others

sent-behind : (told : Bool) (front back : List Start) (s : Start) (m mid n : Moment) (fault :
    ClientFault)
    → SendsStarts told front m mid (Ok tt) → SendsStart told s mid n (Err fault)
    → SendsStarts told (front ++ s ∷ back) m n (Err fault)
sent-behind told [] back s m mid n fault front sends =
    inl (fault, refl, subst (λ (k : Moment). SendsStart told s k n (Err fault)) front.1 sends)
sent-behind told (x ∷ front) back s m mid n fault (inl stopped) sends = absurd (never stopped.0
    stopped.1)
  where
    never : (f : ClientFault) → ◌≡◌ {A = Sent} (Ok tt) (Err f) → ⊥
    never f is = cc
sent-behind told (x ∷ front) back s m mid n fault (inr (next, first, more)) sends =
    inr (next, first, sent-behind told front back s next mid n fault more sends)

sent-next : (told : Bool) (front : List Start) (s : Start) (m mid n : Moment)
    → SendsStarts told front m mid (Ok tt) → SendsStart told s mid n (Ok tt)
    → SendsStarts told (front ++ s ∷ []) m n (Ok tt)
sent-next told [] s m mid n front sends =
    inr (n, subst (λ (k : Moment). SendsStart told s k n (Ok tt)) front.1 sends, (refl, refl))
sent-next told (x ∷ front) s m mid n (inl stopped) sends = absurd (never stopped.0 stopped.1)
  where
    never : (f : ClientFault) → ◌≡◌ {A = Sent} (Ok tt) (Err f) → ⊥
    never f is = cc
sent-next told (x ∷ front) s m mid n (inr (next, first, more)) sends =
    inr (next, first, sent-next told front s next mid n more sends)

-- ---- the loop over the starts

-- all but the last place up to i
around : (starts : List Start) (i : ℕ) (s : Start) → i < length starts
    → s ≡ slice_index_or starts i s → starts ≡ take i starts ++ s ∷ drop (suc i) starts
around [] i s below item = absurd (omega arith)
around (x ∷ starts) zero s below item = ap (λ (y : Start). y ∷ starts) (sym item)
around (x ∷ starts) (suc i) s below item =
    ap (λ (l : List Start). x ∷ l) (around starts i s (omega arith) item)

next-place : (starts : List Start) (i : ℕ) (s : Start) → i < length starts
    → s ≡ slice_index_or starts i s → take (i + 1) starts ≡ take i starts ++ s ∷ []
next-place starts i s below item =
    let next : i + 1 ≡ suc i = omega arith in
    ap (λ k. take k starts) next ∙ by starts i below item
  where
    by : (starts : List Start) (i : ℕ) → i < length starts → s ≡ slice_index_or starts i s
        → take (suc i) starts ≡ take i starts ++ s ∷ []
    by [] i below item = absurd (omega arith)
    by (x ∷ starts) zero below item = ap (λ (y : Start). y ∷ []) (sym item)
    by (x ∷ starts) (suc i) below item =
        ap (λ (l : List Start). x ∷ l) (by starts i (omega arith) item)

module _ (told : Bool) (starts : List Start) (i : ℕ) (s : Start) (m mid n : Moment)
    (below : i < length starts) (item : s ≡ slice_index_or starts i s)
    (front : SendsStarts told (take i starts) m mid (Ok tt)) where
  -- one more was stored
  pub sends-next : ◌≡◌ {A = Sent} (Ok tt) (Err client.NoMemory) ⊎ SendsStart told s mid n (Ok tt)
      → SendsStarts told (take (i + 1) starts) m n (Ok tt)
  sends-next (inl is) = absurd (never is)
    where
      never : ◌≡◌ {A = Sent} (Ok tt) (Err client.NoMemory) → ⊥
      never e = cc
  sends-next (inr sends) =
      subst (λ (ss : List Start). SendsStarts told ss m n (Ok tt))
      (sym (next-place starts i s below item)) (sent-next told (take i starts) s m mid n front
      sends)

  stops-here : (fault : ClientFault) → SendsStart told s mid n (Err fault)
      → SendsStarts told starts m n (Err fault)
  stops-here fault sends =
      subst (λ (ss : List Start). SendsStarts told ss m n (Err fault))
      (sym (around starts i s below item))
      (sent-behind told (take i starts) (drop (suc i) starts) s m mid n fault front sends)

  -- one was not, or memory ran out
  pub sends-stopped : (fault : ClientFault)
      → ◌≡◌ {A = Sent} (Err fault) (Err client.NoMemory) ⊎ SendsStart told s mid n (Err fault)
      → (◌≡◌ {A = Sent} (Err fault) (Err client.NoMemory) → IsAborted told mid n)
      → Sends told starts m n (Err fault)
  sends-stopped client.NoMemory sent aborted =
      record { count = i; last = mid; sends = front; stopped = aborted refl }
  sends-stopped fault (inl is) aborted = absurd (never is)
    where
      never : ◌≡◌ {A = Sent} (Err fault) (Err client.NoMemory) → ⊥
      never e = cc
  sends-stopped fault (inr sends) aborted = stops-here fault sends

-- all were stored
pub sends-all : (told : Bool) (starts : List Start) (i : ℕ) (m n : Moment) → length starts ≤ i
    → SendsStarts told (take i starts) m n (Ok tt) → SendsStarts told starts m n (Ok tt)
sends-all told starts i m n done sends =
    subst (λ (ss : List Start). SendsStarts told ss m n (Ok tt)) (take_all i starts done) sends
