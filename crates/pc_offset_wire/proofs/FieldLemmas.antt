-- The reading of a string's bytes, as the code goes about it.
use Rattle.std.proofs.Common.{◌≡◌, ℕ, ◌≤◌, Bool, true, false, List, length, take, drop, Ok, Err, refl}
use Rattle.std.specs.Str.{IsUtf8, is_utf8}
use Rattle.std.proofs.lemmas.Bool.{le-ltb}
use Rattle.std.proofs.lemmas.Str.{IsUtf8-from_is_utf8, is_utf8-from_IsUtf8}
use Rattle.pc_model.specs.declared.wire_fault.WireFault.TheVariants.{NotUtf8}
use Rattle.pc_model.specs.MessageReading.{text_at}

pub text_at-utf8 : (len : ℕ) (bytes : List ℕ) → len ≤ length bytes → IsUtf8 (take len bytes) → text_at len bytes ≡ Ok (take len bytes, drop len bytes)
unfolding text_at
text_at-utf8 len bytes whole utf8 = rw (le-ltb _ _ whole, is_utf8-from_IsUtf8 (take len bytes) utf8) refl

is_utf8-not : (bytes : List ℕ) (b : Bool) → is_utf8 bytes ≡ b → (IsUtf8 bytes → ⊥) → b ≡ false
is_utf8-not bytes true e other = absurd (other (IsUtf8-from_is_utf8 bytes e))
is_utf8-not bytes false e other = refl

pub text_at-other : (len : ℕ) (bytes : List ℕ) → len ≤ length bytes → (IsUtf8 (take len bytes) → ⊥) → text_at len bytes ≡ Err NotUtf8
unfolding text_at
text_at-other len bytes whole other = rw (le-ltb _ _ whole, is_utf8-not (take len bytes) (is_utf8 (take len bytes)) refl other) refl
