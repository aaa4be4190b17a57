-- What clauses see of a sender and of an inbox.
use Rattle.std.specs.Prelude.{◌≡◌, ◌<◌, ℕ, suc, List, length, refl}
use Rattle.std.specs.Coded.{Coded, code_by, coded×, coded_list, coded_ℕ}
use Rattle.pc_mailbox.specs.Delivery.{with_taken}

-- which mailbox it is
abbrev pub Name : Type 0
Name = ℕ × ℕ

abbrev name_code : Coded Name
name_code = coded× coded_ℕ coded_ℕ

-- which mailbox it is of, its number, and the results that it put
pub record Sending (T : Type 0) : Type 0 where
  pub mailbox : Name
  pub number : ℕ
  pub put : List T

abbrev pub sending_code : {T : Type 0} → Coded T → Coded (Sending T)
sending_code {T} code = code_by (Name × (ℕ × List T)) (coded× name_code (coded× coded_ℕ (coded_list code)))
    (λ s. (s.mailbox, (s.number, s.put))) (λ p. record { mailbox = p.0; number = p.1.0; put = p.1.1 }) (λ _. refl)

-- which mailbox it is of, of each sender the results that were taken, and how often none was found
pub record Receiving (T : Type 0) : Type 0 where
  pub mailbox : Name
  pub taken : List (List T)
  pub misses : ℕ

abbrev pub receiving_code : {T : Type 0} → Coded T → Coded (Receiving T)
receiving_code {T} code = code_by (Name × (List (List T) × ℕ)) (coded× name_code (coded× (coded_list (coded_list code)) coded_ℕ))
    (λ r. (r.mailbox, (r.taken, r.misses))) (λ p. record { mailbox = p.0; taken = p.1.0; misses = p.1.1 }) (λ _. refl)

module _ {T : Type 0} where
  -- one more was taken, of one sender
  pub record TakenNext (old new : Receiving T) (done : T) : Type 0 where
    pub sender : ℕ
    pub known : sender < length old.taken
    pub after : new ≡ record old { taken = with_taken old.taken sender done }

  -- one more miss, and nothing else
  abbrev pub Missed : Receiving T → Receiving T → Type 0
  Missed old new = new ≡ record old { misses = suc old.misses }
