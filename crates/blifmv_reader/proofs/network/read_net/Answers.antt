use Rattle.std.proofs.Common.{Result, Ok, Err, sym, ◌∙◌, ap, subst}
use Rattle.std.proofs.lemmas.Result.{err_from_is_err_and}
use Rattle.net_model.specs.NetTexts.{text_in}
use Rattle.net_model.specs.declared.net.Net as declared_net
use Rattle.net_model.specs.declared.text_fault.TextFault.{TextFault}
use Rattle.net_model.specs.Nets.{net_of}
use Rattle.net_model.specs.Words.{Scope}
use Rattle.blifmv_names.proofs.Within.{text_faultless}
use Rattle.blifmv_reader.proofs.Signals.{table_said}
use Rattle.blifmv_reader.proofs.Sound.{sound_net}
use Rattle.blifmv_reader.proofs.Stands.{known_net, said_net, fit_net, stands_net}
use Rattle.net_model.proofs.OneNet.{one_net}
use Rattle.blifmv_reader.proofs.TextNames.{text_variables, text_small}
use Rattle.blifmv_reader.specs.Told.{FindsNetFault}
use Rattle.blifmv_reader.proofs.Told.{names_refused, rows_refused, signal_found, refused_in, taken_in}
use Rattle.blifmv_reader.proofs.network.read_net.Goals as goal

-- src/network.rt:28:5
pub check_signals-requires-clause-known : goal.check_signals-requires-clause-known
check_signals-requires-clause-known c =
    known_net (text_in c.args.bytes.now) c.in_ok-names.names (net_of c.in_ok-net.net) (table_said (text_in c.args.bytes.now) c.in_ok-names.names c.in_ok-names.ensures.names c.in_ok-names.ensures.few
    (text_small c.args.bytes.now (text_in c.args.bytes.now) c.in_ok-names.ensures.lines (text_faultless c.args.bytes.now c.in_ok-names.ensures.fault).within)) c.in_ok-names.ensures.names c.in_ok-net.ensures.net

-- src/network.rt:28:5
pub check_signals-requires-clause-said : goal.check_signals-requires-clause-said
check_signals-requires-clause-said c = said_net (text_in c.args.bytes.now) c.in_ok-names.names (net_of c.in_ok-net.net) c.in_ok-net.ensures.net

-- src/network.rt:28:5
pub check_signals-requires-clause-latches : goal.check_signals-requires-clause-latches
check_signals-requires-clause-latches c =
    fit_net (text_in c.args.bytes.now) c.in_ok-names.names (net_of c.in_ok-net.net) c.in_ok-net.ensures.latches c.in_ok-net.ensures.net

-- src/network.rt:20:1
pub returns-in-Ok-clause-only : goal.returns-in-Ok-clause-only
returns-in-Ok-clause-only c = λ other. one_net c.args.bytes.now (net_of c.in_ok-net.net) other
    (stands_net c.args.bytes.now c.in_ok-names.names (net_of c.in_ok-net.net) c.in_ok-names.ensures.lines c.in_ok-names.ensures.names c.in_ok-net.ensures.rows c.in_ok-net.ensures.net c.in-Ok.ensures.conditions)

-- src/network.rt:20:1
pub returns-in-Ok-clause-sound : goal.returns-in-Ok-clause-sound
returns-in-Ok-clause-sound c =
    sound_net (text_in c.args.bytes.now) c.in_ok-names.names (net_of c.in_ok-net.net) (table_said (text_in c.args.bytes.now) c.in_ok-names.names c.in_ok-names.ensures.names c.in_ok-names.ensures.few
    (text_small c.args.bytes.now (text_in c.args.bytes.now) c.in_ok-names.ensures.lines (text_faultless c.args.bytes.now c.in_ok-names.ensures.fault).within))
    (text_variables c.args.bytes.now (text_in c.args.bytes.now) c.in_ok-names.ensures.lines (text_faultless c.args.bytes.now c.in_ok-names.ensures.fault).within) c.in_ok-names.ensures.names c.in_ok-net.ensures.rows c.in_ok-net.ensures.net c.in-Ok.ensures.conditions

-- src/network.rt:27:5
pub returns-in-Err-clause-fault : goal.returns-in-Err-clause-fault
returns-in-Err-clause-fault c =
    signal_found {T = declared_net.Net} (Err c.in-Err.fault) c.args.bytes.now c.in_ok-names.names (net_of c.in_ok-net.net) c.in_ok-names.ensures.fault c.in_ok-names.ensures.names c.in_ok-net.ensures.fault c.in_ok-net.ensures.net
    (refused_in (Unit {0}) declared_net.Net c.in-Err.fault c.args.bytes.now (net_of c.in_ok-net.net) c.in-Err.ensures.fault)

-- src/network.rt:19:1
pub returns-in-Ok-clause-fault : goal.returns-in-Ok-clause-fault
returns-in-Ok-clause-fault c =
    signal_found (Ok c.in_ok-net.net) c.args.bytes.now c.in_ok-names.names (net_of c.in_ok-net.net) c.in_ok-names.ensures.fault c.in_ok-names.ensures.names c.in_ok-net.ensures.fault c.in_ok-net.ensures.net
    (taken_in (Unit {0}) declared_net.Net tt c.in_ok-net.net c.args.bytes.now (net_of c.in_ok-net.net) c.in-Ok.ensures.fault)

-- src/network.rt:25:17
pub returns-in_err-names-clause-fault : goal.returns-in_err-names-clause-fault
returns-in_err-names-clause-fault c =
    let back = err_from_is_err_and c.from_residual.result c.from_residual.ensures.1 in
    subst (λ (r : Result declared_net.Net TextFault). FindsNetFault r c.args.bytes.now) (sym (back.1 ∙ ap Err back.2))
    (names_refused Scope declared_net.Net c.in_err-names.field-0.0 c.args.bytes.now c.in_err-names.ensures.fault)

-- src/network.rt:26:15
pub returns-in_err-net-clause-fault : goal.returns-in_err-net-clause-fault
returns-in_err-net-clause-fault c =
    let back = err_from_is_err_and c.from_residual-in_err-net.result c.from_residual-in_err-net.ensures.1 in
    subst (λ (r : Result declared_net.Net TextFault). FindsNetFault r c.args.bytes.now) (sym (back.1 ∙ ap Err back.2))
    (rows_refused declared_net.Net declared_net.Net c.in_err-net.field-0.0 c.args.bytes.now c.in_ok-names.names c.in_ok-names.ensures.fault c.in_ok-names.ensures.names c.in_err-net.ensures.fault)
