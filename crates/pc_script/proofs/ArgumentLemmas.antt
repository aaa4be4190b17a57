-- What a line's arguments keep to.
use Rattle.std.proofs.Common.{◌≡◌, ℕ, ◌≤◌, Bool, true, false, cond, leb, List, Option, Some, None, Result, Ok, Err, refl, subst}
use Rattle.std.specs.Prelude.{◌&&◌}
use Rattle.std.proofs.lemmas.Bool.{and_parts, leb-true}
use Rattle.pc_lines.specs.Decimal.{number_of}
use Rattle.pc_script.specs.declared.fault.ScriptFault.{ScriptFault}
use Rattle.pc_script.specs.declared.fault.ScriptKind.{ScriptKind}
use Rattle.pc_script.specs.declared.fault.ScriptKind.TheVariants.{OutOfRange}
use Rattle.pc_script.specs.declared.fault.ScriptReadFault.{ScriptReadFault}
use Rattle.pc_script.specs.Arguments.{◌>>=◌, in_range, argument_of}

-- the steps of a reading that did not fail
pub bind_ok : {A B : Type 0} (r : Result A ScriptKind) (f : A → Result B ScriptKind) (y : B) → (r >>= f) ≡ Ok y → (x : A) × (r ≡ Ok x) × (f x ≡ Ok y)
bind_ok (Ok x) f y e = (x, refl, e)
bind_ok (Err kind) f y e = absurd cc

pub ok_is : {A : Type 0} {x y : A} → ◌≡◌ {A = Result A ScriptKind} (Ok x) (Ok y) → x ≡ y
ok_is e = cc

pub fault_ok_is : {A : Type 0} {x y : A} → ◌≡◌ {A = Result A ScriptFault} (Ok x) (Ok y) → x ≡ y
fault_ok_is e = cc

pub cond_err_ok : {A : Type 0} (b : Bool) (fault : ScriptReadFault) (other : Result A ScriptReadFault) (y : A) → cond b (Err fault) other ≡ Ok y → other ≡ Ok y
cond_err_ok true fault other y e = absurd cc
cond_err_ok false fault other y e = e

chosen_ok : {A : Type 0} (b : Bool) (x : A) (kind : ScriptKind) (y : A) → cond b (Ok x) (Err kind) ≡ Ok y → (b ≡ true) × (x ≡ y)
chosen_ok true x kind y e = (refl, ok_is e)
chosen_ok false x kind y e = absurd cc

in_range_ok : (least most : ℕ) (read : Option ℕ) (n : ℕ) → in_range least most read ≡ Ok n → (least ≤ n) × (n ≤ most)
in_range_ok least most None n e = absurd cc
in_range_ok least most (Some m) n e =
    let found = chosen_ok (leb least m && leb m most) m OutOfRange n e in
    let parts = and_parts (leb least m) (leb m most) found.0 in
    (subst (λ (k : ℕ). least ≤ k) found.1 (leb-true least m parts.0), subst (λ (k : ℕ). k ≤ most) found.1 (leb-true m most parts.1))

pub argument_of-ok : (least most : ℕ) (word : List ℕ) (n : ℕ) → argument_of least most word ≡ Ok n → (least ≤ n) × (n ≤ most)
unfolding argument_of
argument_of-ok least most word n e = in_range_ok least most (number_of word) n e
