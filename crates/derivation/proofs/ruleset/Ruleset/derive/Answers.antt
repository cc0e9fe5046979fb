use Rattle.std.proofs.Common.{◌≡◌, ◌<◌, T, [], ◌∷◌, ◌++◌, length, get_or, take, sym, refl, ap, subst, inl, arith}
use Rattle.std.proofs.lemmas.Bool.{ltb-false}
use Rattle.semantics.specs.Sets.{all, Canonical, ◌∈◌}
use Rattle.semantics.specs.Rules.{rule_below}
use Rattle.semantics.proofs.Members.{in_append_right}
use Rattle.derivation.specs.Indexing.{lists_of}
use Rattle.derivation.specs.Rulesets.{rules_in, atoms_in}
use Rattle.derivation.specs.Worklist.{Underway, Nothing}
use Rattle.derivation.proofs.Keeping.{kept}
use Rattle.derivation.proofs.Firing.{from_start}
use Rattle.derivation.proofs.Room.{absent_few}
use Rattle.derivation.proofs.Working.{take_last, waits_below, finish}
use Rattle.derivation.proofs.ruleset.Ruleset.derive.Goals as goal

pub fire_all-requires : goal.fire_all-requires
fire_all-requires c =
    let few = absent_few c.args.model.now in
    let small = c.args.self.now.narrow in
    let size = c.requires.size in
    let made = c.new-pending.ensures in
    let entries = ap length c.new-pending.ensures.room in
    record { atoms = c.requires.size; room = omega arith }

pub wake-requires : goal.wake-requires
wake-requires c =
    let few = absent_few c.args.model.now in
    let small = c.args.self.now.narrow in
    let bare = c.requires.size in
    let made = c.new-pending.ensures in
    let entries = ap length c.new-pending.ensures.room in
    let size = c.fire_all.ensures.size in
    let room = c.fire_all.ensures.room in
    let inv = c.loop-atom.invariant in
    let popped = c.in-Some.ensures.size in
    let len = c.in-Some.ensures.len in
    let rs = rules_in c.args.self.now in
    let by = c.args.by.now in
    let start = c.args.model.now in
    let model = c.loop-atom.model in
    let a = c.in-Some.atom in
    let left = take c.pop.new.self.len c.pop.new.self.entries.now in
    let e : atoms_in c.args.self.now ≡ length start = sym c.requires.size in
    let ruled = subst (λ n. T (all (rule_below n) rs)) e c.args.self.now.below in
    let canonical = subst (λ n. Canonical n start) e c.requires in
    let u = from_start rs by start ruled canonical c.new-pending.result.len c.new-pending.result.entries.now c.new-pending.ensures.len _ _ model _ c.fire_all.ensures.fired c.loop-atom.invariant.2 in
    let waiting = subst (Underway rs by start Nothing model) c.in-Some.ensures.held u in
    let small : a < length start = waits_below rs by start Nothing model (left ++ a ∷ []) waiting a (in_append_right left (a ∷ []) a (inl refl)) in
    record { below = omega arith; atoms = omega arith; room = omega arith }

pub loop-atom-preserved : goal.loop-atom-preserved
loop-atom-preserved c =
    let rs = rules_in c.args.self.now in
    let by = c.args.by.now in
    let model = c.loop-atom.model in
    let a = c.in-Some.atom in
    let size = c.wake.ensures.size in
    let room = c.wake.ensures.room in
    let popped = c.in-Some.ensures.size in
    let len = c.in-Some.ensures.len in
    let inv = c.loop-atom.invariant in (
      omega arith,
      omega arith,
      λ bare u.
          let waiting = subst (Underway rs by bare Nothing model) c.in-Some.ensures.held (c.loop-atom.invariant.2 bare u) in
          c.wake.ensures.fired bare (take_last rs by bare model _ a waiting (λ j. j ∈ get_or (lists_of c.args.self.now.index) a []) ((kept c.args.self.now).complete a)),
    )

pub returns : goal.returns
returns c =
    let rs = rules_in c.args.self.now in
    let by = c.args.by.now in
    let bare = c.args.model.now in
    let model = c.loop-atom.model in
    let e : atoms_in c.args.self.now ≡ length bare = sym c.requires.size in
    let below = subst (λ n. T (all (rule_below n) rs)) e c.args.self.now.below in
    let canonical = subst (λ n. Canonical n bare) e c.requires in
    let u = from_start rs by bare below canonical c.new-pending.result.len c.new-pending.result.entries.now c.new-pending.ensures.len _ _ model _ c.fire_all.ensures.fired c.loop-atom.invariant.2 in
    let none = ltb-false 0 c.loop-atom.pending.len (sym c.in_default.ensures.test) in
    let empty : c.loop-atom.pending.len ≡ 0 = omega arith in
    rw e (finish rs by bare model (subst (λ k. Underway rs by bare Nothing model (take k c.loop-atom.pending.entries.now)) empty u))
