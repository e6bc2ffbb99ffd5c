-- What holds of a key since a packet of it was given its mover: the packet makes it so, every fair event leaves it so, and another packet
-- of the key is given the same mover then.
use Prim.Native.Nat.{ℕ}
use mathlib.Core.Bool.{true, false, not}
use mathlib.Core.List.{List, [], ◌∷◌}
use mathlib.Core.Logic.{◌≢◌, ⊎_elim}
use mathlib.Core.Option.{none, some}
use mathlib.Core.Path.{◌≡◌, refl, sym, ap, ◌∙◌}
use lib.Dec.{ltb}
use lib.ListN.{length}
use Rattle.sets.specs.Sets.{member}
use Rattle.sets.proofs.Cases.{both, clash, either}
use Rattle.spans.specs.Spans.{same}
use Rattle.spans.proofs.Scans.{same_self}
use Rattle.ranking.specs.declared.Pick.{Pick}
use Rattle.ranking.specs.Ranking.{choice, outranked}
use Rattle.ranking.proofs.Choice.{choice_tops, choice_only, outranked-none}
use Rattle.ranking.proofs.Unsafe.{unsafe-outranked}
use Rattle.settings.specs.declared.Settings.{Settings}
use Rattle.roster.specs.declared.Roster.{Roster}
use Rattle.roster.specs.Roster.{working, state_of, held_servers, working_set, horizon}
use Rattle.roster.proofs.Sets.{held_sets}
use Rattle.event.specs.Event.{Request, asks_key}
use Rattle.table.specs.Table.{server_of, find, room}
use Rattle.ringplan.specs.Plan.{some as any}
use Rattle.rules.specs.Answer.{Answer}
use Rattle.rules.specs.Rules.{World, Change, target, barred, packet, effect, judged}
use Rattle.claims_histories.specs.Histories.{ranking_for}
use Rattle.claims_histories.proofs.Inner.{Inner}
use Rattle.claims_histories.proofs.Picking.{pick_at, ranking_strict, pick_right}
use Rattle.claims_demands.proofs.SteadyRecords.{server_for, found_server, missing_read, server_found, read_missing, server_new}
use Rattle.claims_demands.proofs.SteadyEvents.{Served, known, safe, written, full, Goes, change_of}
use Rattle.claims_demands.proofs.SteadyChanges.{works_member, works_fits, keeps_settings, keeps_record, keeps_none}

-- since its packet the key has a record that names m; or it has none, and neither a server of P nor a working one outranks m. m works, and
-- the settings are those of the packet.
pub data Kept (c : Settings) (P : ℕ → Type 0) (key : List ℕ) (m : ℕ) (t : List ℕ) (r : Roster) : Type 0 where
  recorded : r.settings ≡ c → state_of m r ≡ working → server_for key t ≡ some m → Kept c P key m t r
  unmoved : r.settings ≡ c → state_of m r ≡ working → server_for key t ≡ none → ((x : ℕ) → P x → ranking_for c key x m ≡ false)
      → ((x : ℕ) → member x (working_set r) ≡ true → ranking_for c key x m ≡ false) → Kept c P key m t r

-- the provisos at one event e, which was answered by a and led from roster r to r'; what that about ends is good for: no end of the key
-- removed its record
pub record Fair (P : ℕ → Type 0) (key : List ℕ) (m : ℕ) (r : Roster) (e : Request) (a : Answer) (r' : Roster) : Type 0 where
  pub works : state_of m r' ≡ working
  pub unremoved : e.kind ≡ 2 → same e.key key ≡ true → a.mark ≢ 5
  pub brought : (x : ℕ) → member x (working_set r') ≡ true → member x (working_set r) ≡ false → P x

member-any : (x : ℕ) (l : List ℕ) → member x l ≡ true → any l ≡ true
member-any x [] m = clash m refl
member-any x (y ∷ l) m = refl

module _ (w : World) (i : Inner w) (key : List ℕ) where
  -- a working server that no working one outranks is the pick
  pick_tops : (c : Settings) (m : ℕ) → w.state.roster.settings ≡ c → state_of m w.state.roster ≡ working
      → ((x : ℕ) → member x (working_set w.state.roster) ≡ true → ranking_for c key x m ≡ false) → (pick_at w key).server ≡ m
  pick_tops c m s q top =
      let works = works_member w i m q in
      ap (λ (p : Pick). p.server) (pick_right w i key m works)
      ∙ rw s (choice_only (ranking_for c key) (ranking_strict c key) m (working_set w.state.roster) works top)

  -- one event
  pub kept-after : {e : Request} {c : Change} → length e.key ≡ 13 → Goes w e c → (d : Settings) (P : ℕ → Type 0) (m : ℕ)
      → Fair P key m w.state.roster e c.answer c.state.roster
      → Kept d P key m w.state.table w.state.roster → Kept d P key m c.state.table c.state.roster
  kept-after n g d P m a (recorded s q f) =
      recorded (keeps_settings w i n g m q ∙ s) a.works (keeps_record w i n g key m a.unremoved a.works f)
  kept-after n g d P m a (unmoved s q f top topw) =
      ⊎_elim
      (λ f'.
      unmoved (keeps_settings w i n g m q ∙ s) a.works f' top
      (λ x y. both (member x (working_set w.state.roster)) (topw x) (λ t. top x (a.brought x y t))))
      (λ f'. recorded (keeps_settings w i n g m q ∙ s) a.works (f' ∙ ap some (pick_tops d m s q topw)))
      (keeps_none w i n g key f)

  -- the earlier packet, for servers all of whom were held at it
  pub kept_first_lem : {c : Change} → length key ≡ 13 → Served w key c → c.answer.mark ≢ 4 → (P : ℕ → Type 0)
      → ((x : ℕ) → P x → member x (held_servers w.state.roster) ≡ true)
      → Kept w.state.roster.settings P key c.answer.server c.state.table c.state.roster
  kept_first_lem n (known f q) r P within = recorded refl q (found_server key w.state.table f)
  kept_first_lem n (safe f q u) r P within =
      let ro = w.state.roster in
      let R = ranking_for ro.settings key in
      let S = ranking_strict ro.settings key in
      let works = works_member w i (pick_at w key).server q in
      let p = pick_right w i key (pick_at w key).server works in
      let server : choice R (working_set ro) ≡ (pick_at w key).server = sym (ap (λ (x : Pick). x.server) p) in
      let flag : outranked R (choice R (working_set ro)) (horizon ro) ≡ false =
      sym (unsafe-outranked R S (pick_at w key).server (working_set ro) (horizon ro) works) ∙ sym (ap (λ (x : Pick). x.flag) p) ∙ u in
      let top : (x : ℕ) → member x (working_set ro) ≡ true → R x (pick_at w key).server ≡ false =
      λ x h. rw (← server) (choice_tops R S x (working_set ro) h) in
      unmoved refl q (missing_read server_of key w.state.table f)
      (λ x h.
      either
      (member x (working_set ro))
      (member x (horizon ro))
      (sym (held_sets ro i.along.roster_sound i.places x) ∙ within x h)
      (top x)
      (λ y. rw (← server) (outranked-none R (choice R (working_set ro)) x (horizon ro) flag y)))
      top
  kept_first_lem n (written f q l) r P within =
      let p = (pick_at w key).server in
      recorded refl q
      (server_new key w.state.table i.along.clean l key p n (works_fits w i p q) (missing_read server_of key w.state.table f)
      ∙ rw (same_self key))
  kept_first_lem n full r P within = absurd (r refl)

  -- where a packet of the key is led
  kept_target : (d : Settings) (P : ℕ → Type 0) (m : ℕ) → Kept d P key m w.state.table w.state.roster
      → (state_of m w.state.roster ≡ working) × (target (find key w.state.table) (pick_at w key) w.state ≡ m)
  kept_target d P m (recorded s q f) = let (a, b) = server_found key w.state.table m f in (q, rw a b)
  kept_target d P m (unmoved s q f top topw) = (q, rw (read_missing server_of key w.state.table f) (pick_tops d m s q topw))

  -- an accepted packet is given the server that it is led to
  packet_led : ((packet key (find key w.state.table) (pick_at w key) w.state).answer.accepted ≡ true)
      × ((packet key (find key w.state.table) (pick_at w key) w.state).answer.server
      ≡ target (find key w.state.table) (pick_at w key) w.state)
  unfolding packet
  packet_led =
      both (find key w.state.table).found (λ a. rw a (refl, refl)) (λ a.
      both (not (pick_at w key).flag) (λ b. rw (a, b) (refl, refl)) (λ b.
      both (ltb (find key w.state.table).reads (room w.state.table)) (λ c. rw (a, b, c) (refl, refl)) (λ c. rw (a, b, c) (refl, refl))))

  -- nothing bars a packet that is led to a working server
  packet_unbarred : any (working_set w.state.roster) ≡ true
      → state_of (target (find key w.state.table) (pick_at w key) w.state) w.state.roster ≡ working
      → barred (asks_key 1 key) (find key w.state.table) (pick_at w key) w.state ≡ 0
  unfolding barred
  packet_unbarred a b = rw (a, b)

  -- the later packet
  pub kept_last : (d : Settings) (P : ℕ → Type 0) (m : ℕ) → Kept d P key m w.state.table w.state.roster
      → ((change_of w (asks_key 1 key)).answer.accepted ≡ true)
      × ((change_of w (asks_key 1 key)).answer.server ≡ m)
  unfolding judged effect
  kept_last d P m k =
      let (q, t) = kept_target d P m k in
      rw (packet_unbarred (member-any m (working_set w.state.roster) (works_member w i m q)) (rw t q))
      (packet_led.0, packet_led.1 ∙ t)
