-- Each step of a mailbox keeps the rule of its queue.
use Rattle.std.proofs.Common.{map, ◌≡◌, ◌≢◌, ◌<◌, ◌≤◌, ◌⊎◌, ℕ, zero, suc, ◌+◌, List, [], ◌∷◌, ◌++◌, length, set, sym, refl, ap, ◌∙◌, subst, inl, inr, ⊎_elim, append_assoc, append-nil, length-append, length-set, replicate, slice_get, Option, None, Some, MatchOption, IfSome, lt_of_not-le, arith, if◌then◌else◌, ◌==◌}
use Rattle.std.proofs.lemmas.Bool.{eq-eqb, ne_eqb}
use Rattle.std.proofs.lemmas.List.{get_or-set_same, get_or-set_other, map-append, replicate-append-replicate}
use mathlib.Core.Logic.{dite}
use mathlib.Core.Option.{some, some-injective, some-ne-none}
use native.Mathlib.Decide.{ℕ_discrete}
use lib.ListN.{get_elem?}
use Rattle.crossbeam_queue.specs.Fifo.{Merges, Learns, Pushes, Pops, Forks}
use Rattle.crossbeam_queue.proofs.Lists.{at_set}
use Rattle.pc_mailbox.specs.declared.delivery.Letter.{Letter}
use Rattle.pc_mailbox.specs.declared.delivery.Known.{Known}
use Rattle.pc_mailbox.specs.declared.delivery.Known.TheVariants.{Sends, Receives, Joins, Spare}
use Rattle.pc_mailbox.specs.Delivery.{placed, queued, of_sender, Fits, Delivers, taken_of, misses_of, with_put, with_taken, TakesNext, with_miss, with_sender, new_sender, number_of, joined, inbox_of, sender_of, IsFront, Agrees}
use Rattle.pc_mailbox.specs.Ends.{Name, Receiving, TakenNext}

-- Lists by places

not-nil : {A : Type 0} (a : List A) (b : A) (c : List A) → a ++ b ∷ c ≡ [] → ⊥
not-nil [] b c e = cc
not-nil (x ∷ xs) b c e = cc

first-is : {A : Type 0} (a b : A) (xs ys : List A) → a ∷ xs ≡ b ∷ ys → a ≡ b
first-is a b xs ys e = cc

-- an entry of a list with one more is an entry of the list, or the last
at_more : {A : Type 0} (l : List A) (a b : A) (j : ℕ) → get_elem? (l ++ a ∷ []) j ≡ some b → (get_elem? l j ≡ some b) ⊎ ((j ≡ length l) × (a ≡ b))
at_more [] a b zero e = inr (refl, some-injective a b e)
at_more [] a b (suc j) e = absurd (some-ne-none b (sym e))
at_more (x ∷ xs) a b zero e = inl e
at_more (x ∷ xs) a b (suc j) e = ⊎_elim (λ t. inl t) (λ t. inr (ap suc t.0, t.1)) (at_more xs a b j e)

module _ {A : Type 0} where
  -- the function, but for one place
  abbrev with_at : ℕ → A → (ℕ → A) → ℕ → A
  with_at n a f p = if p == n then a else f p

  with_at-here : (n : ℕ) (a : A) (f : ℕ → A) → with_at n a f n ≡ a
  with_at-here n a f = rw (eq-eqb n n refl) refl

  with_at-else : (n : ℕ) (a : A) (f : ℕ → A) (p : ℕ) → p ≢ n → with_at n a f p ≡ f p
  with_at-else n a f p other = rw (ne_eqb p n other) refl

module _ {T : Type 0} where
  -- Results and their places

  queued-own : (sender : ℕ) (x : Letter T) (xs : List (Letter T)) → x.sender ≡ sender → queued sender (x ∷ xs) ≡ (x.place, x.value) ∷ queued sender xs
  queued-own sender x xs e = rw (eq-eqb x.sender sender e) refl

  queued-other : (sender : ℕ) (x : Letter T) (xs : List (Letter T)) → x.sender ≢ sender → queued sender (x ∷ xs) ≡ queued sender xs
  queued-other sender x xs n = rw (ne_eqb x.sender sender n) refl

  queued-append : (sender : ℕ) (xs ys : List (Letter T)) → queued sender (xs ++ ys) ≡ queued sender xs ++ queued sender ys
  queued-append sender [] ys = refl
  queued-append sender (x ∷ xs) ys =
      dite (ℕ_discrete x.sender sender)
      (λ e. queued-own sender x (xs ++ ys) e ∙ ap (λ l. (x.place, x.value) ∷ l) (queued-append sender xs ys) ∙ ap (λ l. l ++ queued sender ys) (sym (queued-own sender x xs e)))
      (λ n. queued-other sender x (xs ++ ys) n ∙ queued-append sender xs ys ∙ ap (λ l. l ++ queued sender ys) (sym (queued-other sender x xs n)))

  placed-snoc : (n : ℕ) (xs : List T) (y : T) → placed n (xs ++ y ∷ []) ≡ placed n xs ++ (n + length xs, y) ∷ []
  placed-snoc n [] y = let e : n ≡ n + 0 = omega arith in ap (λ k. (k, y) ∷ []) e
  placed-snoc n (x ∷ xs) y = let e : suc n + length xs ≡ n + suc (length xs) = omega arith in
      ap (λ l. (n, x) ∷ l) (placed-snoc (suc n) xs y ∙ ap (λ k. placed (suc n) xs ++ (k, y) ∷ []) e)

  -- what follows some of the results has the next place
  placed-next : (n k : ℕ) (v : T) (xs ys : List T) (rest : List (ℕ × T)) → placed n xs ++ (k, v) ∷ rest ≡ placed n ys → k ≡ n + length xs
  placed-next n k v [] [] rest e = cc
  placed-next n k v [] (y ∷ ys) rest e =
      let q : k ≡ n = ap (λ (t : ℕ × T). t.0) (first-is (k, v) (n, y) rest (placed (suc n) ys) e) in omega arith
  placed-next n k v (x ∷ xs) [] rest e = cc
  placed-next n k v (x ∷ xs) (y ∷ ys) rest e =
      let t : placed (suc n) xs ++ (k, v) ∷ rest ≡ placed (suc n) ys = cc in let q : k ≡ suc n + length xs = placed-next (suc n) k v xs ys rest t in omega arith

  of_sender-more : (taken : List (List T)) (sender : ℕ) → of_sender (taken ++ [] ∷ []) sender ≡ of_sender taken sender
  of_sender-more [] zero = refl
  of_sender-more [] (suc p) = refl
  of_sender-more (x ∷ xs) zero = refl
  of_sender-more (x ∷ xs) (suc p) = of_sender-more xs p

  -- Passes

  known-set : (F : ℕ → Known T → Type 0) (views : List (Known T)) (pass : ℕ) (w : Known T) → F pass w
      → ((j : ℕ) (u : Known T) → j ≢ pass → get_elem? views j ≡ some u → F j u)
      → (j : ℕ) (u : Known T) → get_elem? (set views pass w) j ≡ some u → F j u
  known-set F views pass w mine others j u e =
      ⊎_elim (λ (x : (j ≡ pass) × (w ≡ u)). subst (λ (y : ℕ × Known T). F y.0 y.1) (λ i. (sym x.0 i, x.1 i)) mine)
      (λ (x : (j ≢ pass) × (get_elem? views j ≡ some u)). others j u x.0 x.1) (at_set views pass j w u e)

  known-snoc : (F : ℕ → Known T → Type 0) (views : List (Known T)) (w : Known T)
      → ((j : ℕ) (u : Known T) → get_elem? views j ≡ some u → F j u) → F (length views) w
      → (j : ℕ) (u : Known T) → get_elem? (views ++ w ∷ []) j ≡ some u → F j u
  known-snoc F views w old last j u e =
      ⊎_elim (λ (x : get_elem? views j ≡ some u). old j u x)
      (λ (x : (j ≡ length views) × (w ≡ u)). subst (λ (y : ℕ × Known T). F y.0 y.1) (λ i. (sym x.0 i, x.1 i)) last) (at_more views w u j e)

  -- another pass fits on where a sender puts
  fits-put : (reader : ℕ) (taken : List (List T)) (seat : ℕ → ℕ) (put : ℕ → List T) (number : ℕ) (l : List T) (pass j : ℕ) → seat number ≡ pass → j ≢ pass
      → (u : Known T) → Fits reader taken seat put j u → Fits reader taken seat (with_at number l put) j u
  fits-put reader taken seat put number l pass j mine other (Sends m own) f =
      (f.0, f.1 ∙ sym (with_at-else number l put m (λ e. other (sym f.0 ∙ ap seat e ∙ mine))), f.2)
  fits-put reader taken seat put number l pass j mine other (Receives got misses) f = f
  fits-put reader taken seat put number l pass j mine other (Joins m own got misses) f =
      (f.0, f.1 ∙ sym (with_at-else number l put m (λ e. other (sym f.0 ∙ ap seat e ∙ mine))), f.2, f.3, f.4)
  fits-put reader taken seat put number l pass j mine other Spare f = tt

  -- another pass fits on where the inbox knows more
  fits-taken : (reader : ℕ) (taken more : List (List T)) (seat : ℕ → ℕ) (put : ℕ → List T) (pass j : ℕ) → reader ≡ pass → length taken ≤ length more → j ≢ pass
      → (u : Known T) → Fits reader taken seat put j u → Fits reader more seat put j u
  fits-taken reader taken more seat put pass j mine longer other (Sends m own) f = (f.0, f.1, let h = f.2 in omega arith)
  fits-taken reader taken more seat put pass j mine longer other (Receives got misses) f = absurd (other (sym f.0 ∙ mine))
  fits-taken reader taken more seat put pass j mine longer other (Joins m own got misses) f = absurd (other (sym f.3 ∙ mine))
  fits-taken reader taken more seat put pass j mine longer other Spare f = tt

  -- another pass fits on where a new sender has a pass
  fits-seat : (reader : ℕ) (taken : List (List T)) (seat : ℕ → ℕ) (put : ℕ → List T) (number place j : ℕ) → length taken ≤ number
      → (u : Known T) → Fits reader taken seat put j u → Fits reader taken (with_at number place seat) put j u
  fits-seat reader taken seat put number place j far (Sends m own) f = let h = f.2 in
      (with_at-else number place seat m (λ e. omega arith) ∙ f.0, f.1, f.2)
  fits-seat reader taken seat put number place j far (Receives got misses) f = f
  fits-seat reader taken seat put number place j far (Joins m own got misses) f = let h = f.2 in
      (with_at-else number place seat m (λ e. omega arith) ∙ f.0, f.1, f.2, f.3, f.4)
  fits-seat reader taken seat put number place j far Spare f = tt

  -- another pass fits on where a sender's pass is another
  fits-moved : (reader : ℕ) (taken : List (List T)) (seat : ℕ → ℕ) (put : ℕ → List T) (number place was j : ℕ) → seat number ≡ was → j ≢ was
      → (u : Known T) → Fits reader taken seat put j u → Fits reader taken (with_at number place seat) put j u
  fits-moved reader taken seat put number place was j mine other (Sends m own) f =
      (with_at-else number place seat m (λ e. other (sym f.0 ∙ ap seat e ∙ mine)) ∙ f.0, f.1, f.2)
  fits-moved reader taken seat put number place was j mine other (Receives got misses) f = f
  fits-moved reader taken seat put number place was j mine other (Joins m own got misses) f =
      (with_at-else number place seat m (λ e. other (sym f.0 ∙ ap seat e ∙ mine)) ∙ f.0, f.1, f.2, f.3, f.4)
  fits-moved reader taken seat put number place was j mine other Spare f = tt

  -- The steps

  pub begins : Delivers {T = T} [] (Receives [] 0 ∷ [])
  begins = record {
    reader = 0;
    taken = [];
    seat = λ _. 0;
    put = λ _. [];
    in_order = λ _. refl;
    none_other = λ _ _. refl;
    known = known-snoc (Fits 0 [] (λ _. 0) (λ _. [])) [] (Receives [] 0) (λ j u e. absurd (some-ne-none u (sym e))) (refl, refl);
  }

  put-in_order : (taken : List T) (items : List (Letter T)) (x : Letter T) (number : ℕ) (put : List T) → x.sender ≡ number → x.place ≡ length put
      → placed 0 taken ++ queued number items ≡ placed 0 put → placed 0 taken ++ queued number (items ++ x ∷ []) ≡ placed 0 (put ++ x.value ∷ [])
  put-in_order taken items x number put own place e =
      ap (λ l. placed 0 taken ++ l) (queued-append number items (x ∷ []) ∙ ap (λ l. queued number items ++ l) (queued-own number x [] own))
      ∙ sym (append_assoc (placed 0 taken) (queued number items) ((x.place, x.value) ∷ []))
      ∙ ap (λ l. l ++ (x.place, x.value) ∷ []) e
      ∙ ap (λ k. placed 0 put ++ (k, x.value) ∷ []) (let q : x.place ≡ 0 + length put = omega arith in q)
      ∙ sym (placed-snoc 0 put x.value)

  put-other : (taken : List T) (items : List (Letter T)) (x : Letter T) (sender : ℕ) (put : List T) → x.sender ≢ sender
      → placed 0 taken ++ queued sender items ≡ placed 0 put → placed 0 taken ++ queued sender (items ++ x ∷ []) ≡ placed 0 put
  put-other taken items x sender put other e =
      ap (λ l. placed 0 taken ++ l) (queued-append sender items (x ∷ []) ∙ ap (λ l. queued sender items ++ l) (queued-other sender x [] other) ∙ append-nil (queued sender items)) ∙ e

  puts-own : (n pass number : ℕ) (put : List T) (x : Letter T) → x.sender ≡ number → x.place ≡ length put
      → Pushes Delivers n pass (Sends number put) x (λ w. w ≡ Sends number (put ++ x.value ∷ []))
  puts-own n pass number put x own place items views _ h at =
      let mine = h.known pass (Sends number put) at in let more : List T = put ++ x.value ∷ [] in let now : ℕ → List T = with_at number more h.put in
      let w : Known T = Sends number more in
      let there : placed 0 (of_sender h.taken number) ++ queued number items ≡ placed 0 put = h.in_order number ∙ ap (placed 0) (sym mine.1) in (
        w,
        record {
          reader = h.reader;
          taken = h.taken;
          seat = h.seat;
          put = now;
          in_order = λ p.
              dite (ℕ_discrete p number)
              (λ e. subst (λ q. placed 0 (of_sender h.taken q) ++ queued q (items ++ x ∷ []) ≡ placed 0 (now q)) (sym e)
              (put-in_order (of_sender h.taken number) items x number put own place there ∙ ap (placed 0) (sym (with_at-here number more h.put))))
              (λ other. put-other (of_sender h.taken p) items x p (h.put p) (λ s. other (sym s ∙ own)) (h.in_order p)
              ∙ ap (placed 0) (sym (with_at-else number more h.put p other)));
          none_other = λ p far. let known = mine.2 in with_at-else number more h.put p (λ e. omega arith) ∙ h.none_other p far;
          known = known-set (Fits h.reader h.taken h.seat now) views pass w (mine.0, sym (with_at-here number more h.put), mine.2)
              (λ j u other e. fits-put h.reader h.taken h.seat h.put number more pass j mine.0 other u (h.known j u e));
        },
        refl,
      )

  -- a sender puts a result at its next place
  pub puts : (n pass : ℕ) (v : Known T) (number : ℕ) (put : List T) (x : Letter T) → v ≡ Sends number put → x.sender ≡ number → x.place ≡ length put
      → Pushes Delivers n pass v x (λ w. w ≡ with_put v x.value)
  puts n pass v number put x e own place = subst (λ v. Pushes Delivers n pass v x (λ w. w ≡ with_put v x.value)) (sym e) (puts-own n pass number put x own place)

  take-in_order : (taken : List T) (items : List (Letter T)) (x : Letter T) (put : List T) → x.place ≡ length taken
      → placed 0 taken ++ (x.place, x.value) ∷ queued x.sender items ≡ placed 0 put
      → placed 0 (taken ++ x.value ∷ []) ++ queued x.sender items ≡ placed 0 put
  take-in_order taken items x put place e =
      ap (λ l. l ++ queued x.sender items) (placed-snoc 0 taken x.value ∙ ap (λ k. placed 0 taken ++ (k, x.value) ∷ []) (let q : 0 + length taken ≡ x.place = omega arith in q))
      ∙ append_assoc (placed 0 taken) ((x.place, x.value) ∷ []) (queued x.sender items)
      ∙ e

  takes-own : (pass : ℕ) (got : List (List T)) (misses : ℕ) → Pops Delivers pass (Receives got misses) (TakesNext (Receives got misses))
  takes-own pass got misses x items views h at =
      let mine = h.known pass (Receives got misses) at in let s : ℕ = x.sender in let more : List (List T) = with_taken got s x.value in
      let w : Known T = Receives more misses in
      let there : (p : ℕ) → placed 0 (of_sender got p) ++ queued p (x ∷ items) ≡ placed 0 (h.put p)
      = subst (λ t. (p : ℕ) → placed 0 (of_sender t p) ++ queued p (x ∷ items) ≡ placed 0 (h.put p)) (sym mine.1) h.in_order in
      let none : (p : ℕ) → length got ≤ p → h.put p ≡ [] = subst (λ (t : List (List T)). (p : ℕ) → length t ≤ p → h.put p ≡ []) (sym mine.1) h.none_other in
      let front : placed 0 (of_sender got s) ++ (x.place, x.value) ∷ queued s items ≡ placed 0 (h.put s)
      = ap (λ l. placed 0 (of_sender got s) ++ l) (sym (queued-own s x items refl)) ∙ there s in
      let next : x.place ≡ length (of_sender got s) = let q : x.place ≡ 0 + length (of_sender got s) = placed-next 0 x.place x.value (of_sender got s) (h.put s) (queued s items) front in omega arith in
      let known : s < length got = lt_of_not-le (λ far. not-nil (placed 0 (of_sender got s)) (x.place, x.value) (queued s items) (front ∙ ap (placed 0) (none s far))) in
      let long : length more ≡ length got = length-set got s (of_sender got s ++ x.value ∷ []) in
      let same : length h.taken ≡ length got = ap length (sym mine.1) in (
        w,
        record {
          reader = h.reader;
          taken = more;
          seat = h.seat;
          put = h.put;
          in_order = λ p.
              dite (ℕ_discrete p s)
              (λ e. subst (λ q. placed 0 (of_sender more q) ++ queued q items ≡ placed 0 (h.put q)) (sym e)
              (ap (λ l. placed 0 l ++ queued s items) (get_or-set_same got s (of_sender got s ++ x.value ∷ []) [] known)
              ∙ take-in_order (of_sender got s) items x (h.put s) next front))
              (λ other. ap (λ l. placed 0 l ++ queued p items) (get_or-set_other got s p (of_sender got s ++ x.value ∷ []) [] other)
              ∙ ap (λ l. placed 0 (of_sender got p) ++ l) (sym (queued-other p x items (λ e. other (sym e))))
              ∙ there p);
          none_other = λ p far. none p (omega arith);
          known = known-set (Fits h.reader more h.seat h.put) views pass w (mine.0, refl)
              (λ j u other e. fits-taken h.reader h.taken more h.seat h.put pass j mine.0 (omega arith) other u (h.known j u e));
        },
        (known, next, refl),
      )

  -- the inbox takes what is in front
  pub takes : (pass : ℕ) (v : Known T) (got : List (List T)) (misses : ℕ) → v ≡ Receives got misses → Pops Delivers pass v (TakesNext v)
  takes pass v got misses e = subst (λ v. Pops Delivers pass v (TakesNext v)) (sym e) (takes-own pass got misses)

  misses-own : (pass : ℕ) (got : List (List T)) (misses : ℕ) → Forks Delivers pass (Receives got misses) (Receives got (suc misses)) Spare
  misses-own pass got misses items views h at = let mine = h.known pass (Receives got misses) at in let w : Known T = Receives got (suc misses) in record {
    reader = h.reader;
    taken = h.taken;
    seat = h.seat;
    put = h.put;
    in_order = h.in_order;
    none_other = h.none_other;
    known = known-snoc (Fits h.reader h.taken h.seat h.put) (set views pass w) Spare
        (known-set (Fits h.reader h.taken h.seat h.put) views pass w mine (λ j u other e. h.known j u e)) tt;
  }

  -- the inbox found none
  pub misses : (pass : ℕ) (v : Known T) (got : List (List T)) (n : ℕ) → v ≡ Receives got n → Forks Delivers pass v (with_miss v) Spare
  misses pass v got n e = subst (λ v. Forks Delivers pass v (with_miss v) Spare) (sym e) (misses-own pass got n)

  opens-own : (pass : ℕ) (got : List (List T)) (misses : ℕ) → Forks Delivers pass (Receives got misses) (Receives (got ++ [] ∷ []) misses) (Sends (length got) [])
  opens-own pass got misses items views h at =
      let mine = h.known pass (Receives got misses) at in let number : ℕ = length got in let more : List (List T) = got ++ [] ∷ [] in
      let w : Known T = Receives more misses in let there : List (Known T) = set views pass w in let seat : ℕ → ℕ = with_at number (length there) h.seat in
      let same : length h.taken ≡ number = ap length (sym mine.1) in let long : length more ≡ number + 1 = length-append got ([] ∷ []) in record {
        reader = h.reader;
        taken = more;
        seat = seat;
        put = h.put;
        in_order = λ p. ap (λ l. placed 0 l ++ queued p items) (of_sender-more got p ∙ ap (λ t. of_sender t p) mine.1) ∙ h.in_order p;
        none_other = λ p far. h.none_other p (omega arith);
        known = known-snoc (Fits h.reader more seat h.put) there (Sends number [])
            (known-set (Fits h.reader more seat h.put) views pass w (mine.0, refl)
            (λ j u other e. fits-taken h.reader h.taken more seat h.put pass j mine.0 (omega arith) other u
            (fits-seat h.reader h.taken h.seat h.put number (length there) j (omega arith) u (h.known j u e))))
            (with_at-here number (length there) h.seat, sym (h.none_other number (omega arith)), omega arith);
      }

  -- there is one more sender
  pub opens : (pass : ℕ) (v : Known T) (got : List (List T)) (misses : ℕ) → v ≡ Receives got misses → Forks Delivers pass v (with_sender v) (new_sender v)
  opens pass v got misses e = subst (λ v. Forks Delivers pass v (with_sender v) (new_sender v)) (sym e) (opens-own pass got misses)

  joins-own : (pass : ℕ) (got : List (List T)) (misses other number : ℕ) (put : List T) → Merges Delivers pass (Receives got misses) other (Sends number put) (Joins number put got misses) Spare
  joins-own pass got misses other number put items views h at apart there =
      let mine = h.known pass (Receives got misses) at in let both : Known T = Joins number put got misses in
      let was : get_elem? views other ≡ some (Sends number put)
      = ⊎_elim (λ (x : (other ≡ pass) × (both ≡ Sends number put)). absurd (apart x.0)) (λ (x : (other ≢ pass) × (get_elem? views other ≡ some (Sends number put))). x.1) (at_set views pass other both (Sends number put) there) in
      let theirs = h.known other (Sends number put) was in let seat : ℕ → ℕ = with_at number pass h.seat in
      let Now : ℕ → Known T → Type 0 = λ j u. j ≢ other → Fits h.reader h.taken seat h.put j u in
      let now = known-set Now views pass both (λ _. (with_at-here number pass h.seat, theirs.1, theirs.2, mine.0, mine.1))
      (λ j u _ e far. fits-moved h.reader h.taken h.seat h.put number pass other j theirs.0 far u (h.known j u e)) in record {
        reader = h.reader;
        taken = h.taken;
        seat = seat;
        put = h.put;
        in_order = h.in_order;
        none_other = h.none_other;
        known = known-set (Fits h.reader h.taken seat h.put) (set views pass both) other Spare tt (λ j u far e. now j u e far);
      }

  -- a sender is compared with the inbox
  pub joins : (pass other : ℕ) (v w : Known T) (got : List (List T)) (misses number : ℕ) (put : List T) → v ≡ Receives got misses → w ≡ Sends number put → Merges Delivers pass v other w (joined v w) Spare
  joins pass other v w got misses number put e d =
      subst (λ (y : Known T × Known T). Merges Delivers pass y.0 other y.1 (joined y.0 y.1) Spare) (λ i. (sym e i, sym d i)) (joins-own pass got misses other number put)

  splits-own : (pass : ℕ) (number : ℕ) (put : List T) (got : List (List T)) (misses : ℕ) → Forks Delivers pass (Joins number put got misses) (Receives got misses) (Sends number put)
  splits-own pass number put got misses items views h at =
      let mine = h.known pass (Joins number put got misses) at in let w : Known T = Receives got misses in let there : List (Known T) = set views pass w in
      let seat : ℕ → ℕ = with_at number (length there) h.seat in record {
        reader = h.reader;
        taken = h.taken;
        seat = seat;
        put = h.put;
        in_order = h.in_order;
        none_other = h.none_other;
        known = known-snoc (Fits h.reader h.taken seat h.put) there (Sends number put)
            (known-set (Fits h.reader h.taken seat h.put) views pass w (mine.3, mine.4)
            (λ j u far e. fits-moved h.reader h.taken h.seat h.put number (length there) pass j mine.0 far u (h.known j u e)))
            (with_at-here number (length there) h.seat, mine.1, mine.2);
      }

  -- and is a sender again
  pub splits : (pass : ℕ) (v : Known T) (number : ℕ) (put : List T) (got : List (List T)) (misses : ℕ) → v ≡ Joins number put got misses → Forks Delivers pass v (inbox_of v) (sender_of v)
  splits pass v number put got misses e = subst (λ v. Forks Delivers pass v (inbox_of v) (sender_of v)) (sym e) (splits-own pass number put got misses)

  values-placed : (n : ℕ) (xs : List T) → map (λ (p : ℕ × T). p.1) (placed n xs) ≡ xs
  values-placed n [] = refl
  values-placed n (x ∷ xs) = ap (λ l. x ∷ l) (values-placed (suc n) xs)

  front-of : (taken put : List T) (rest : List (ℕ × T)) → placed 0 taken ++ rest ≡ placed 0 put → IsFront taken put
  front-of taken put rest e = (
    map (λ (p : ℕ × T). p.1) rest,
    sym (values-placed 0 put) ∙ ap (map (λ (p : ℕ × T). p.1)) (sym e) ∙ map-append (λ (p : ℕ × T). p.1) (placed 0 taken) rest
        ∙ ap (λ l. l ++ map (λ (p : ℕ × T). p.1) rest) (values-placed 0 taken),
  )

  agrees-own : (pass : ℕ) (number : ℕ) (put : List T) (got : List (List T)) (misses : ℕ) → Learns Delivers pass (Joins number put got misses) (λ items. Agrees (Joins number put got misses))
  agrees-own pass number put got misses items views h at =
      let mine = h.known pass (Joins number put got misses) at in
      front-of (of_sender got number) put (queued number items)
      (ap (λ t. placed 0 (of_sender t number) ++ queued number items) mine.4 ∙ h.in_order number ∙ ap (placed 0) (sym mine.1))

  pub agrees : (pass : ℕ) (v : Known T) (number : ℕ) (put : List T) (got : List (List T)) (misses : ℕ) → v ≡ Joins number put got misses → Learns Delivers pass v (λ items. Agrees v)
  agrees pass v number put got misses e = subst (λ v. Learns Delivers pass v (λ items. Agrees v)) (sym e) (agrees-own pass number put got misses)

  -- What clauses see

  next-taken : (old : Receiving T) (name : Name) (v w : Known T) (x : Letter T) (done : T) → old.taken ≡ taken_of v → old.misses ≡ misses_of v → name ≡ old.mailbox → done ≡ x.value
      → TakesNext v x w → TakenNext old (record { mailbox = name; taken = taken_of w; misses = misses_of w }) done
  next-taken old name v w x done taken missed same is t = record {
    sender = x.sender;
    known = subst (λ (l : List (List T)). x.sender < length l) (sym taken) t.0;
    after = λ i. record {
      mailbox = same i;
      taken = (ap taken_of t.2 ∙ ap (λ l. with_taken l x.sender x.value) (sym taken) ∙ ap (with_taken old.taken x.sender) (sym is)) i;
      misses = (ap misses_of t.2 ∙ sym missed) i;
    };
  }

  pub next-taken-some : (old : Receiving T) (name : Name) (v w : Known T) (r : Option (Letter T)) (N S : Type 0) → old.taken ≡ taken_of v → old.misses ≡ misses_of v → name ≡ old.mailbox
      → MatchOption r N (λ x. TakesNext v x w × S) → IfSome r (λ x. TakenNext old (record { mailbox = name; taken = taken_of w; misses = misses_of w }) x.value)
  next-taken-some old name v w None N S taken missed same t = tt
  next-taken-some old name v w (Some x) N S taken missed same t = next-taken old name v w x x.value taken missed same refl t.0

  -- one more sender of which nothing was taken
  pub nothing-more : (n misses : ℕ) (v w : Known T) → w ≡ with_sender v → v ≡ Receives (replicate n []) misses → w ≡ Receives (replicate (n + 1) []) misses
  nothing-more n misses v w e is = e ∙ ap with_sender is ∙ ap (λ l. Receives l misses) (replicate-append-replicate n 1 [])

module _ {A : Type 0} where
  slice_get-front : (l m : List A) (k : ℕ) → k < length l → slice_get (l ++ m) k ≡ slice_get l k
  slice_get-front [] m k h = absurd (omega arith)
  slice_get-front (x ∷ xs) m zero h = refl
  slice_get-front (x ∷ xs) m (suc k) h = slice_get-front xs m k (omega arith)

  slice_get-last : (l : List A) (x : A) → slice_get (l ++ x ∷ []) (length l) ≡ Some x
  slice_get-last [] x = refl
  slice_get-last (y ∷ ys) x = slice_get-last ys x

  -- what holds of each place holds of one more
  pub each-more : (items more : List A) (f : ℕ → A) (x : A) (n : ℕ) → more ≡ items ++ x ∷ [] → length items ≡ n → x ≡ f n → ((k : ℕ) → k < n → slice_get items k ≡ Some (f k))
      → (k : ℕ) → k < n + 1 → slice_get more k ≡ Some (f k)
  each-more items more f x n e long is each k h =
      ap (λ l. slice_get l k) e
      ∙ dite (ℕ_discrete k n)
      (λ last. subst (λ j. slice_get (items ++ x ∷ []) j ≡ Some (f j)) (long ∙ sym last) (slice_get-last items x ∙ ap Some (is ∙ ap f (sym long))))
      (λ other. slice_get-front items (x ∷ []) k (omega arith) ∙ each k (omega arith))
