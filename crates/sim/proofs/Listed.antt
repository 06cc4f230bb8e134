-- The needs and draws of a part, as a written plan lists them. Assumes nothing.
use Rattle.std.proofs.Common.{◌≡◌, ℕ, zero, suc, ◌<◌, ◌≤◌, List, [], ◌∷◌, map, length, get_or, take, set, sym, refl, ap, ◌∙◌, subst, inl, inr, arith}
use Rattle.std.proofs.lemmas.List.{get_or-map, get_or_past, length-map, length-take-le, map-set}
use Rattle.std.proofs.lemmas.Bool.{cases_lt}
use Rattle.power.specs.Board.{Need, put, on_of, least_of, most_of}
use Rattle.sim.specs.declared.plan.PlanNeed.{PlanNeed}
use Rattle.sim.specs.declared.plan.PlanPart.{PlanPart}
use Rattle.sim.specs.Plans.{need_of, needs_of, needs_at, draw_of, draws_at, Tells}
use Rattle.sim.proofs.Puts.{set_put}

pub needs_at_lem : (ps : List PlanPart) (x : ℕ) (d : PlanPart) → x < length ps → needs_at ps x ≡ needs_of (get_or ps x d)
needs_at_lem ps x d h = get_or-map needs_of ps x d [] h

pub needs_past : (ps : List PlanPart) (x : ℕ) → length ps ≤ x → needs_at ps x ≡ []
needs_past ps x h = get_or_past (map needs_of ps) x [] (simp length-map h)

-- the same of what it draws
pub draws_at_lem : (ps : List PlanPart) (x : ℕ) (d : PlanPart) → x < length ps → draws_at ps x ≡ (get_or ps x d).draw
draws_at_lem ps x d h = get_or-map draw_of ps x d [] h

-- one part in another's place, in any list that its parts have
pub set_listed : {A : Type 0} (f : PlanPart → List A) (ps : List PlanPart) (n : ℕ) (p : PlanPart) → n < length ps → (λ y. get_or (map f (set ps n p)) y []) ≡ put n (f p) (λ y. get_or (map f ps) y [])
set_listed {A} f ps n p h =
    let at : List (List A) → ℕ → List A = λ qs y. get_or qs y [] in
    let k : n < length (map f ps) = simp length-map h in
    ap at (map-set f ps n p) ∙ set_put (λ (z : List A). z) [] (f p) (map f ps) n k

pub length_needs : (p : PlanPart) → length (needs_of p) ≡ p.count
length_needs p = length-map (take p.count p.needs) need_of ∙ length-take-le p.count p.needs (omega arith)

-- what is a need at all is one of the four of a part that there is
pub listed : (ps : List PlanPart) (x k : ℕ) → k < length (needs_at ps x) → x < length ps
listed ps x k h =
    elim (cases_lt x (length ps)) [ inl l ↦ l | inr g ↦ absurd (omega (arith, ap length (needs_past ps x g))) ]

-- the kth need of a list of written needs
tells_map : (ms : List PlanNeed) (k : ℕ) (d : PlanNeed) → k < length ms → Tells (need_of (get_or ms k d)) k (map need_of ms)
unfolding on_of least_of most_of
tells_map [] k d h = absurd (omega arith)
tells_map (m ∷ ms) zero d h = record { on = refl; least = λ l. refl; most = refl }
tells_map (m ∷ ms) (suc k) d h =
    let r = tells_map ms k d (omega arith) in record { on = r.on; least = r.least; most = r.most }

-- of what a part that there is needs
pub tells_need : (ps : List PlanPart) (x k : ℕ) (d : PlanPart) (ns : List PlanNeed) (e : PlanNeed) → k < length (needs_at ps x) → map need_of ns ≡ needs_of (get_or ps x d) → Tells (need_of (get_or ns k e)) k (needs_at ps x)
tells_need ps x k d ns e h m =
    let s : map need_of ns ≡ needs_at ps x = m ∙ sym (needs_at_lem ps x d (listed ps x k h)) in
    let l : k < length ns = omega (arith, ap length s, length-map ns need_of) in
    subst (λ (ms : List Need). Tells (need_of (get_or ns k e)) k ms) s (tells_map ns k e l)
