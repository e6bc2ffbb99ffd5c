-- What a whole packet record says, as the code finds it.
use Rattle.std.proofs.Common.{◌≡◌, ◌≤◌, Bool, true, false, cond, ltb, leb, List, ℕ, length, refl, leb-true}
use Rattle.sets.proofs.Cases.{clash}
use Rattle.pcap.specs.Captures.{whole, record_size}

-- a whole record has all its bytes
has_both : (a b : Bool) → cond a false b ≡ true → b ≡ true
has_both true b e = clash e refl
has_both false b e = e

pub whole_there : (low : Bool) (b : List ℕ) → whole low b ≡ true → record_size low b ≤ length b
unfolding whole
whole_there low b e = leb-true (record_size low b) (length b) (has_both (ltb (length b) 16) (leb (record_size low b) (length b)) e)
