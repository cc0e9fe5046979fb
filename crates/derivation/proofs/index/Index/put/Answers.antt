use Rattle.std.proofs.Common.{◌∷◌, ◌++◌, [], set, sym, ap, ◌∙◌}
use Rattle.std.proofs.lemmas.List.{set-get_or}
use Rattle.std.proofs.lemmas.Result.{err_from_is_err_and}
use Rattle.derivation.specs.Indexing.{lists_of, put_literal}
use Rattle.derivation.proofs.Waking.{list_read, list_written}
use Rattle.derivation.proofs.index.Index.put.Goals as goal

pub returns-in_err-push-clause-lists : goal.returns-in_err-push-clause-lists
returns-in_err-push-clause-lists c =
    let ix = c.args.self.now in
    let a = c.args.literal.now.atom in
    let read = list_read ix a c.index_mut.result.now c.requires c.index_mut.ensures.value in
    let same = list_written ix a c.push.new.self ∙ ap (set (lists_of ix) a) (c.in_err-push.ensures.items ∙ sym read) ∙ set-get_or (lists_of ix) a [] in
    let p = err_from_is_err_and c.from_residual.result c.from_residual.ensures.1 in
    rw p.1 same

pub returns-in_ok-push-clause-lists : goal.returns-in_ok-push-clause-lists
returns-in_ok-push-clause-lists c =
    let ix = c.args.self.now in
    let a = c.args.literal.now.atom in
    let read = list_read ix a c.index_mut.result.now c.requires c.index_mut.ensures.value in
    list_written ix a c.push.new.self ∙ ap (set (lists_of ix) a) (c.in_ok-push.ensures.items ∙ ap (λ xs. xs ++ c.args.line ∷ []) (sym read)) ∙ ap (λ d. put_literal c.args.line d a (lists_of ix)) (sym c.in-Present.is)
