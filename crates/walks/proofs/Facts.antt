-- Facts as assertions: what two of them show as facts, they show as assertions. For theorems that no second answer keeps a contract.
use seplogic.Ra.Ura.{Ura}
use base.Logic.{SProp, ent, sep, via, fst∗, snd∗}
use contract.Monad.{conj, conj_l, conj_r, fact, fact_i, fact_use}

module _ {M : Type 1} (𝓤 : Ura M) where
  pub follows : (P Q R : Type 0) → (P → Q → R) → ent 𝓤 (conj 𝓤 (fact 𝓤 P) (fact 𝓤 Q)) (fact 𝓤 R)
  follows P Q R f =
      fact_use 𝓤 P (conj_l 𝓤 (fact 𝓤 P) (fact 𝓤 Q)) (λ p.
      fact_use 𝓤 Q (conj_r 𝓤 (fact 𝓤 P) (fact 𝓤 Q)) (λ q. fact_i 𝓤 R (conj 𝓤 (fact 𝓤 P) (fact 𝓤 Q)) (f p q)))

  -- of contracts that say two facts each
  pub follow_two : (P P' Q Q' R : Type 0) → (P → P' → Q → Q' → R)
      → ent 𝓤 (conj 𝓤 (sep 𝓤 (fact 𝓤 P) (fact 𝓤 P')) (sep 𝓤 (fact 𝓤 Q) (fact 𝓤 Q'))) (fact 𝓤 R)
  follow_two P P' Q Q' R f =
      let S : SProp 𝓤 = sep 𝓤 (fact 𝓤 P) (fact 𝓤 P') in
      let T : SProp 𝓤 = sep 𝓤 (fact 𝓤 Q) (fact 𝓤 Q') in
      fact_use 𝓤 P (via 𝓤 S (conj_l 𝓤 S T) (fst∗ 𝓤 (fact 𝓤 P) (fact 𝓤 P'))) (λ p.
      fact_use 𝓤 P' (via 𝓤 S (conj_l 𝓤 S T) (snd∗ 𝓤 (fact 𝓤 P) (fact 𝓤 P'))) (λ p'.
      fact_use 𝓤 Q (via 𝓤 T (conj_r 𝓤 S T) (fst∗ 𝓤 (fact 𝓤 Q) (fact 𝓤 Q'))) (λ q.
      fact_use 𝓤 Q' (via 𝓤 T (conj_r 𝓤 S T) (snd∗ 𝓤 (fact 𝓤 Q) (fact 𝓤 Q'))) (λ q'. fact_i 𝓤 R (conj 𝓤 S T) (f p p' q q')))))
