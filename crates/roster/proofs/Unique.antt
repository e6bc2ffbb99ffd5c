-- No second answer keeps the promise of a public function of this crate. `Learnt` is what a caller learns from the function's contract.
use Prim.Native.Nat.{ℕ}
use mathlib.Core.Bool.{Bool}
use mathlib.Core.Path.{◌≡◌}
use Rattle.lists.specs.declared.Movers.{Movers}
use Rattle.roster.specs.declared.Roster.{Roster}
use Rattle.roster.proofs.empty.Reads.{Learnt as empty-promise}
use Rattle.roster.proofs.sound.Reads.{Learnt as sound-promise}
use Rattle.roster.proofs.state_of.Reads.{Learnt as state-of-promise}
use Rattle.roster.proofs.add_working.Reads.{Learnt as add-working-promise}
use Rattle.roster.proofs.remove_working.Reads.{Learnt as remove-working-promise}
use Rattle.roster.proofs.add_horizon.Reads.{Learnt as add-horizon-promise}
use Rattle.roster.proofs.remove_horizon.Reads.{Learnt as remove-horizon-promise}
use Rattle.roster.proofs.Roster.places.Reads.{Learnt as places-promise}
use Rattle.roster.proofs.Roster.movers.Reads.{Learnt as movers-promise}
use Rattle.roster.proofs.in_use.Reads.{Learnt as in-use-promise}
use Rattle.roster.proofs.parts.sound.Reads.{Learnt as parts-sound-promise}
use Rattle.roster.proofs.parts.state_in.Reads.{Learnt as state-in-promise}

pub empty_unique : (κs : _) (a : _) (x y : Roster) (e e' : _) → empty-promise κs a x e → empty-promise κs a y e' → x ≡ y
empty_unique κs a x y e e' p q = cc

pub sound_unique : (κs : _) (a : _) (x y : Bool) (e e' : _) → sound-promise κs a x e → sound-promise κs a y e' → x ≡ y
sound_unique κs a x y e e' p q = cc

pub state_of_unique : (κs : _) (a : _) (x y : ℕ) (e e' : _) → state-of-promise κs a x e → state-of-promise κs a y e' → x ≡ y
state_of_unique κs a x y e e' p q = cc

pub add-working_unique : (κs : _) (a : _) (x y : Roster) (e e' : _) → add-working-promise κs a x e → add-working-promise κs a y e' → x ≡ y
add-working_unique κs a x y e e' p q = cc

pub remove_working_unique : (κs : _) (a : _) (x y : Roster) (e e' : _) → remove-working-promise κs a x e → remove-working-promise κs a y e' → x ≡ y
remove_working_unique κs a x y e e' p q = cc

pub add-horizon_unique : (κs : _) (a : _) (x y : Roster) (e e' : _) → add-horizon-promise κs a x e → add-horizon-promise κs a y e' → x ≡ y
add-horizon_unique κs a x y e e' p q = cc

pub remove_horizon_unique : (κs : _) (a : _) (x y : Roster) (e e' : _) → remove-horizon-promise κs a x e → remove-horizon-promise κs a y e' → x ≡ y
remove_horizon_unique κs a x y e e' p q = cc

pub in_use_unique : (κs : _) (a : _) (x y : ℕ) (e e' : _) → in-use-promise κs a x e → in-use-promise κs a y e' → x ≡ y
in_use_unique κs a x y e e' p q = cc

-- of the parts of a roster, lent
pub parts_sound_unique : (κs : _) (a : _) (x y : Bool) (e e' : _) → parts-sound-promise κs a x e → parts-sound-promise κs a y e' → x ≡ y
parts_sound_unique κs a x y e e' p q = cc

pub state_in_unique : (κs : _) (a : _) (x y : ℕ) (e e' : _) → state-in-promise κs a x e → state-in-promise κs a y e' → x ≡ y
state_in_unique κs a x y e e' p q = cc

-- of movers lent, the two lists
pub places_unique : (κs : _) (a : _) (x y : Movers) (e e' : _) → places-promise κs a x e → places-promise κs a y e'
    → (x.servers.now ≡ y.servers.now) × (x.states.now ≡ y.states.now)
places_unique κs a x y e e' p q = (cc, cc)

pub movers_unique : (κs : _) (a : _) (x y : Movers) (e e' : _) → movers-promise κs a x e → movers-promise κs a y e'
    → (x.servers.now ≡ y.servers.now) × (x.states.now ≡ y.states.now)
movers_unique κs a x y e e' p q = (cc, cc)
