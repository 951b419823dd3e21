-- Each arm is one call, which is the step of its command.
use Rattle.std.proofs.Common.{refl, subst, true}
use Rattle.seg_types.specs.Commands.{AllDeallocated, Find, Free, Lookup, NumNamed, NumUnique, Sanity}
use Rattle.seg_types.specs.Keys.{index_key_seen, key_seen}
use Rattle.segment_lang.specs.Seen.{operation_of, literal_of}
use Rattle.segment_manager.specs.Answers.{Done, Made, Number, Boolean}
use Rattle.segment_manager.specs.objects.Found.{found_answer}
use Rattle.segment_manager.specs.containers.Maps.{any_value_answer}
use Rattle.segment_manager.specs.State.{AnswersQuery}
use Rattle.segment_scripts.specs.declared.replies.CommandAnswer.TheVariants as said
use Rattle.segment_scripts.proofs.segments.CommandSteps.{keeps-refused, replies-as, replies-blocks, replies-command}
use Rattle.segment_scripts.proofs.segments.CommandSteps.{replies-found}
use Rattle.segment_scripts.proofs.segments.CommandSteps.{replies-info}
use Rattle.segment_scripts.proofs.segments.CommandSteps.{lacks-found, named-found, places-found}
use Rattle.segment_scripts.proofs.segments.CommandSteps.{unique-found}
use Rattle.segment_scripts.proofs.segments.CommandSteps.{replies-kinds, replies-names, replies-read, replies-show}
use Rattle.segment_scripts.specs.Replies.{IsMeant}
use Rattle.segment_scripts.proofs.changing.Texts.{has-room}
use Rattle.segment_scripts.proofs.replies.reply.Goals as goal

pub returns-in-Construct : goal.returns-in-Construct
returns-in-Construct c = replies-as c.in-Construct.is c.make.ensures

pub returns-in-ConstructIt : goal.returns-in-ConstructIt
returns-in-ConstructIt c = replies-command c.in-ConstructIt.is Made (λ _.
    refl) c.construct_it.result refl refl c.made.ensures c.construct_it.ensures.step
    c.construct_it.ensures.refused (λ _. refl)

pub returns-in-Find : goal.returns-in-Find
returns-in-Find c = replies-as c.in-Find.is
    (replies-read c.args.segment.now (Find (index_key_seen c.in-Find.key) c.in-Find.kind) c.looked_up.result
    (found_answer c.find_kind.result) refl c.looked_up.ensures
    (subst (λ k. AnswersQuery c.args.segment.now (Find k c.in-Find.kind) (found_answer c.find_kind.result))
    c.into_key.ensures c.find_kind.ensures))

pub returns-in-FindOrConstruct : goal.returns-in-FindOrConstruct
returns-in-FindOrConstruct c = replies-as c.in-FindOrConstruct.is c.make-in-FindOrConstruct.ensures

pub returns-in-Destroy : goal.returns-in-Destroy
returns-in-Destroy c = replies-found c.in-Destroy.is Boolean (λ _.
    refl) c.destroy.result refl refl c.truth.ensures c.destroy.ensures.step
    (keeps-refused c.args.segment.now c.destroy.new.self c.destroy.result c.destroy.ensures.refused)
    (lacks-found _ c.destroy.ensures.absent)

pub returns-in-DestroyPtr : goal.returns-in-DestroyPtr
returns-in-DestroyPtr c = replies-command c.in-DestroyPtr.is (λ _. Boolean true) (λ _.
    refl) c.destroy_ptr.result refl refl c.gone.ensures c.destroy_ptr.ensures.step
    (keeps-refused c.args.segment.now c.destroy_ptr.new.self c.destroy_ptr.result c.destroy_ptr.ensures.refused)
    (λ _. refl)

pub returns-in-Show : goal.returns-in-Show
returns-in-Show c = replies-as c.in-Show.is (replies-show c.args.segment.now c.in-Show.key)

pub returns-in-Info : goal.returns-in-Info
returns-in-Info c = replies-as c.in-Info.is (replies-info c.args.segment.now c.in-Info.key)

pub set-requires : goal.set-requires
set-requires c = has-room (literal_of c.in-Set.value) (subst (λ k. IsMeant (operation_of k)) c.in-Set.is c.requires)

pub add-requires : goal.add-requires
add-requires c =
    has-room (literal_of c.in-Insert.value) (subst (λ k. IsMeant (operation_of k)) c.in-Insert.is c.requires)

pub returns-in-Set : goal.returns-in-Set
returns-in-Set c = replies-command c.in-Set.is (λ _. Done) (λ _.
    refl) c.set.result refl refl c.done.ensures c.set.ensures.step
    (keeps-refused c.args.segment.now c.set.new.segment c.set.result c.set.ensures.refused) (λ _. refl)

pub returns-in-Insert : goal.returns-in-Insert
returns-in-Insert c = replies-command c.in-Insert.is (λ _. Done) (λ _.
    refl) c.add.result refl refl c.done-in-Insert.ensures c.add.ensures.step c.add.ensures.refused (λ _. refl)

pub returns-in-Erase : goal.returns-in-Erase
returns-in-Erase c = replies-command c.in-Erase.is (λ _. Done) (λ _.
    refl) c.erase.result refl refl c.done-in-Erase.ensures c.erase.ensures.step
    (keeps-refused c.args.segment.now c.erase.new.segment c.erase.result c.erase.ensures.refused) (λ _. refl)

pub returns-in-Reserve : goal.returns-in-Reserve
returns-in-Reserve c = replies-found c.in-Reserve.is (λ _. Done) (λ _.
    refl) c.reserve.result refl refl c.done-in-Reserve.ensures c.reserve.ensures.step
    (keeps-refused c.args.segment.now c.reserve.new.self c.reserve.result c.reserve.ensures.refused)
    (places-found (key_seen c.in-Reserve.key) c.in-Reserve.count c.reserve.ensures.noop)

pub returns-in-Shrink : goal.returns-in-Shrink
returns-in-Shrink c = replies-command c.in-Shrink.is (λ _. Done) (λ _.
    refl) c.shrink.result refl refl c.done-in-Shrink.ensures c.shrink.ensures.step
    (keeps-refused c.args.segment.now c.shrink.new.self c.shrink.result c.shrink.ensures.refused) (λ _. refl)

pub returns-in-Clear : goal.returns-in-Clear
returns-in-Clear c = replies-command c.in-Clear.is (λ _. Done) (λ _.
    refl) c.clear.result refl refl c.done-in-Clear.ensures c.clear.ensures.step
    (keeps-refused c.args.segment.now c.clear.new.self c.clear.result c.clear.ensures.refused) (λ _. refl)

pub returns-in-Assign : goal.returns-in-Assign
returns-in-Assign c = replies-command c.in-Assign.is (λ _. Done) (λ _.
    refl) c.assign.result refl refl c.done-in-Assign.ensures c.assign.ensures.step c.assign.ensures.refused (λ _. refl)

pub returns-in-Append : goal.returns-in-Append
returns-in-Append c = replies-command c.in-Append.is (λ _. Done) (λ _.
    refl) c.append.result refl refl c.done-in-Append.ensures c.append.ensures.step
    (keeps-refused c.args.segment.now c.append.new.segment c.append.result c.append.ensures.refused) (λ _. refl)

pub returns-in-Lookup : goal.returns-in-Lookup
returns-in-Lookup c = replies-as c.in-Lookup.is
    (replies-read c.args.segment.now (Lookup (key_seen c.in-Lookup.key) (literal_of c.in-Lookup.at))
    c.value_found.result (any_value_answer c.look_up.result) refl c.value_found.ensures c.look_up.ensures)

pub returns-in-Remove : goal.returns-in-Remove
returns-in-Remove c = replies-command c.in-Remove.is Boolean (λ _.
    refl) c.erase_pair.result refl refl c.truth-in-Remove.ensures c.erase_pair.ensures.step
    (keeps-refused c.args.segment.now c.erase_pair.new.segment c.erase_pair.result c.erase_pair.ensures.refused)
    (λ _. refl)

pub returns-in-ListNames : goal.returns-in-ListNames
returns-in-ListNames c = replies-as c.in-ListNames.is (replies-names c.args.segment.now)

pub returns-in-ListKinds : goal.returns-in-ListKinds
returns-in-ListKinds c = replies-as c.in-ListKinds.is (replies-kinds c.args.segment.now)

pub returns-in-Blocks : goal.returns-in-Blocks
returns-in-Blocks c = replies-as c.in-Blocks.is (replies-blocks c.args.segment.now)

pub returns-in-Free : goal.returns-in-Free
returns-in-Free c = replies-as c.in-Free.is
    (replies-read c.args.segment.now Free (said.Number c.free.result) (Number c.free.result) refl (λ d.
    refl) c.free.ensures)

pub returns-in-NumNamed : goal.returns-in-NumNamed
returns-in-NumNamed c = replies-as c.in-NumNamed.is
    (replies-read c.args.segment.now NumNamed (said.Number c.num_named.result) (Number c.num_named.result) refl
    (λ d. refl) c.num_named.ensures)

pub returns-in-NumUnique : goal.returns-in-NumUnique
returns-in-NumUnique c = replies-as c.in-NumUnique.is
    (replies-read c.args.segment.now NumUnique (said.Number c.num_unique.result) (Number c.num_unique.result) refl
    (λ d. refl) c.num_unique.ensures)

pub returns-in-Sanity : goal.returns-in-Sanity
returns-in-Sanity c = replies-as c.in-Sanity.is
    (replies-read c.args.segment.now Sanity (said.Boolean c.sanity.result) (Boolean c.sanity.result) refl (λ d.
    refl) c.sanity.ensures)

pub returns-in-AllDeallocated : goal.returns-in-AllDeallocated
returns-in-AllDeallocated c = replies-as c.in-AllDeallocated.is
    (replies-read c.args.segment.now AllDeallocated (said.Boolean c.all_deallocated.result)
    (Boolean c.all_deallocated.result) refl (λ d. refl) c.all_deallocated.ensures)

pub returns-in-ReserveNamed : goal.returns-in-ReserveNamed
returns-in-ReserveNamed c = replies-found c.in-ReserveNamed.is (λ _. Done) (λ _.
    refl) c.reserve_named.result refl refl c.done-in-ReserveNamed.ensures c.reserve_named.ensures.step
    (keeps-refused c.args.segment.now c.reserve_named.new.self c.reserve_named.result
    c.reserve_named.ensures.refused) (named-found c.in-ReserveNamed.count c.reserve_named.ensures.noop)

pub returns-in-ReserveUnique : goal.returns-in-ReserveUnique
returns-in-ReserveUnique c = replies-found c.in-ReserveUnique.is (λ _. Done) (λ _.
    refl) c.reserve_unique.result refl refl c.done-in-ReserveUnique.ensures c.reserve_unique.ensures.step
    (keeps-refused c.args.segment.now c.reserve_unique.new.self c.reserve_unique.result
    c.reserve_unique.ensures.refused) (unique-found c.in-ReserveUnique.count c.reserve_unique.ensures.noop)

pub returns-in-ShrinkIndexes : goal.returns-in-ShrinkIndexes
returns-in-ShrinkIndexes c = replies-command c.in-ShrinkIndexes.is (λ _. Done) (λ _.
    refl) c.shrink_indexes.result refl refl c.done-in-ShrinkIndexes.ensures c.shrink_indexes.ensures.step
    (keeps-refused c.args.segment.now c.shrink_indexes.new.self c.shrink_indexes.result
    c.shrink_indexes.ensures.refused) (λ _. refl)
