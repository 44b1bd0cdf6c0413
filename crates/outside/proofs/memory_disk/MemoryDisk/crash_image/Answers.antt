use Rattle.std.proofs.Common.{rules, ◌≡◌, ◌<◌, ◌++◌, [], ◌∷◌, length, take, get_or, sym, ◌∙◌, ap}
use Rattle.std.proofs.lemmas.List.{take_more}
use Rattle.outside.specs.Record.{bytes_after_operation, image_after_operation}
use Rattle.outside.specs.declared.memory_disk.Call.{Call}
use Rattle.outside.proofs.Calls.{picked_more}
use Rattle.outside.proofs.memory_disk.MemoryDisk.crash_image.Goals as goal

pub loop-call-preserved : goal.loop-call-preserved
loop-call-preserved c =
    let calls = c.args.self.now.calls.items in
    let index = c.loop-call.call-index in
    let call = c.call-item.result in
    let within : index < length calls = search rules in
    let here : call ≡ get_or calls index call = search rules in
    let grown = take_more calls index call within ∙ ap (λ (x : Call). take index calls ++ x ∷ []) (sym here) in
    let bytes : c.in_ok-next.next.0.items ≡ bytes_after_operation c.loop-call.bytes.items call.operation call.failed = search rules in
    let image : image_after_operation c.loop-call.bytes.items (λ d. d ≡ c.loop-call.image.items) call.operation call.failed c.in_ok-next.next.1.items =
    search rules in
    picked_more c.args.self.now.first.items
    (take index calls) _ call c.loop-call.bytes.items c.loop-call.image.items c.in_ok-next.next.0.items c.in_ok-next.next.1.items grown
    c.loop-call.invariant bytes image
