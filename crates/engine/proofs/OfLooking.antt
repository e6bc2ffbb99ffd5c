-- What a look finds, by what the event asks and whether its key has a record.
use Prim.Native.Nat.{ℕ}
use mathlib.Core.Bool.{Bool, true, false, not, cond}
use mathlib.Core.List.{List, []}
use mathlib.Core.Path.{◌≡◌, refl, ap}
use Rattle.std.specs.Prelude.{Option, Some, None}
use lib.Dec.{eqb}
use Rattle.hash.specs.Hash.{F}
use Rattle.roster.specs.declared.Roster.{Roster}
use Rattle.event.specs.Event.{Request}
use Rattle.table.specs.Table.{Finding, find}
use Rattle.rules.specs.Rules.{is}
use Rattle.sets.proofs.Cases.{both, clash}
use Rattle.engine.specs.Looking.{LookupFacts, nothing_found, key_asked, look_of}

-- a key that is there
abbrev inside : Option (List ℕ) → List ℕ
inside (Some k) = k
inside None = []

abbrev there : Option (List ℕ) → Bool
there (Some k) = true
there None = false

module _ (e : Request) (t : List ℕ) (sized : Bool) (r : Roster) where
  abbrev looked_as : Finding → ℕ → ℕ → LookupFacts
  looked_as found f places = record { request = e; found = found; f = f; places = places; sized = sized }

  pub look_nothing : ((k : List ℕ) → key_asked e ≡ Some k → ⊥) → looked_as nothing_found 0 0 ≡ look_of sized e t r
  unfolding look_of
  look_nothing n =
      both (is 1 e) (λ p. absurd (n e.key (rw p))) (λ p.
      both (is 2 e) (λ q. absurd (n e.key (rw (p, q)))) (λ q. rw (p, q)))

  -- what is found, for a packet or an end; without more where there is a record, or no packet
  pub look_found : (found : Finding) (key : List ℕ) → Some key ≡ key_asked e → found ≡ find key t → cond (is 1 e) (not found.found) false ≡ false
      → looked_as found 0 0 ≡ look_of sized e t r
  unfolding look_of
  look_found found key h w u =
      both (is 1 e)
      (λ p. let k : key ≡ e.key = ap inside (rw p at h) in let v : not (find e.key t).found ≡ false = rw (p, w, k) at u in rw (p, w, k, v))
      (λ p. both (is 2 e)
      (λ q. let k : key ≡ e.key = ap inside (rw (p, q) at h) in rw (p, q, w, k))
      (λ q. clash refl (ap there (rw (p, q) at h))))

  pub look_open : (found : Finding) (key : List ℕ) (f p : ℕ) → Some key ≡ key_asked e → found ≡ find key t → cond (is 1 e) (not found.found) false ≡ true
      → f ≡ F key → p ≡ cond (eqb r.settings.method 2) r.held 0 → looked_as found f p ≡ look_of sized e t r
  unfolding look_of
  look_open found key f p h w u x y =
      both (is 1 e)
      (λ q. let k : key ≡ e.key = ap inside (rw q at h) in let v : not (find e.key t).found ≡ true = rw (q, w, k) at u in rw (q, w, k, v, x, y, k))
      (λ q. clash (rw q at u) refl)
