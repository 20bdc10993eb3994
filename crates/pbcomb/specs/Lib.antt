pub mod ProgramDevice
